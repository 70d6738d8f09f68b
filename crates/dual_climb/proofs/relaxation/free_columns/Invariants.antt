use Rattle.std.proofs.Common.{length, All}
use Rattle.dual_climb.specs.Climbs.{IsBelow, IsSpan}
use Rattle.dual_climb.proofs.relaxation.free_columns.Given as goal

abbrev pub invariant-loop-number : goal.invariant-loop-number
invariant-loop-number l = record {
  spans : All (IsSpan (length l.terms.items)) l.columns.items;
  rows : All (IsBelow l.rows) l.terms.items;
}
