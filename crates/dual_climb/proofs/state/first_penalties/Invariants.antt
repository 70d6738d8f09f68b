use Rattle.std.proofs.Common.{◌≡◌, length}
use Rattle.dual_climb.proofs.state.first_penalties.Given as goal

abbrev pub invariant-loop-range : goal.invariant-loop-range
invariant-loop-range l = length l.penalties.items ≡ l.range-index
