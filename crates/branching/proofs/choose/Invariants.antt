use Rattle.std.proofs.Common.{◌<◌, ◌<ℤ◌, length}
use Rattle.int_model.specs.Boxes.{interval_at}
use Rattle.branching.proofs.choose.Given as goal

abbrev pub invariant-loop-other : goal.invariant-loop-other
invariant-loop-other l = record {
  column : l.column < length l.bounds;
  wide : (interval_at l.bounds l.column).low <ℤ (interval_at l.bounds l.column).high;
}
