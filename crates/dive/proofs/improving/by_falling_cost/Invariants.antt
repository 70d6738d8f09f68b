use Rattle.std.proofs.Common.{◌≡◌, length}
use Rattle.dive.proofs.improving.by_falling_cost.Given as goal

abbrev pub invariant-loop-j : goal.invariant-loop-j
invariant-loop-j l = length l.keys.items ≡ l.j
