use Rattle.std.proofs.Common.{◌≡◌, length}
use Rattle.dual_climb.proofs.state.shortened.Given as goal

abbrev pub invariant-loop-number : goal.invariant-loop-number
invariant-loop-number l = length l.numbers.items ≡ l.number-index
