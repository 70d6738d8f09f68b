use Rattle.std.proofs.Common.{◌≤◌, ◌+◌, length}
use Rattle.mps_reader.specs.Readings.{IsReading}
use Rattle.mps_reader.proofs.read_model.Given as goal

abbrev pub invariant-loop-line : goal.invariant-loop-line
invariant-loop-line l = record {
  room : l.number + length l.line-iterator ≤ 16777216;
  reading : IsReading l.draft l.number l.line-iterator l.bytes;
}
