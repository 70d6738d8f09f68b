use Rattle.std.proofs.Common.{◌≤◌, length, All}
use Rattle.dual_climb.specs.Climbs.{IsBelow}
use Rattle.dual_climb.proofs.relaxation.append.Given as goal

abbrev pub invariant-loop-row : goal.invariant-loop-row
invariant-loop-row l = record {
  longer : length l.initial.terms.items ≤ length l.terms.items;
  rows : All (IsBelow l.rows) l.terms.items;
}
