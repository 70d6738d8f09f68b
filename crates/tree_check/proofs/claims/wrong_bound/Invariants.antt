use Rattle.std.proofs.Common.{◌≡◌, ◌<◌, ℕ, Some, slice_get}
use Rattle.scenario_changes.specs.declared.answer.Answer.{Answer}
use Rattle.tree_check.specs.Checks.{BoundHolds}
use Rattle.tree_check.proofs.claims.wrong_bound.Given as goal

abbrev pub invariant-loop-s : goal.invariant-loop-s
invariant-loop-s l = (j : ℕ) (a : Answer) → j < l.s → slice_get l.answers j ≡ Some a → BoundHolds a
