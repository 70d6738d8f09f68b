use Rattle.std.proofs.Common.{◌≡◌, ◌<◌, ℕ, Some, slice_get}
use Rattle.dual_bounds.specs.Vectors.{Multipliers, KeepsLimits}
use Rattle.tree_log.proofs.limits.vectors_keep_limits.Given as goal

abbrev pub invariant-loop-k : goal.invariant-loop-k
invariant-loop-k l = (i : ℕ) (v : Multipliers) → i < l.k → slice_get l.vectors i ≡ Some v → KeepsLimits v
