use Rattle.std.proofs.Common.{◌≡◌, length}
use Rattle.dual_climb.proofs.penalties.penalty_ranges.Given as goal

abbrev pub invariant-loop-sum : goal.invariant-loop-sum
invariant-loop-sum l = length l.ranges.items ≡ l.sum-index
