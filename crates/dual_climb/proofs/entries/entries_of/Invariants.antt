use Rattle.std.proofs.Common.{◌≤◌, length}
use Rattle.dual_bounds.specs.Vectors.{AreEntries, RowsBelow}
use Rattle.dual_climb.proofs.entries.entries_of.Given as goal

abbrev pub invariant-loop-row : goal.invariant-loop-row
invariant-loop-row l = record {
  rows : RowsBelow l.row l.entries.items;
  limits : AreEntries 0 l.entries.items;
  few : length l.entries.items ≤ 128;
}
