use Rattle.std.proofs.Common.{◌≤◌, length, All}
use Rattle.dual_climb.specs.Climbs.{IsBelow}
use Rattle.dual_climb.proofs.interior.append_active.Given as goal

abbrev pub invariant-loop-term : goal.invariant-loop-term
invariant-loop-term l = record {
  longer : length l.initial.terms.items ≤ length l.terms.items;
  rows : All (IsBelow (length l.rows)) l.terms.items;
}
