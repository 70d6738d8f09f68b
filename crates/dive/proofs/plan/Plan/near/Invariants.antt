use Rattle.std.proofs.Common.{◌≡◌, length}
use Rattle.dive.proofs.plan.Plan.near.Given as goal

abbrev pub invariant-loop-number : goal.invariant-loop-number
invariant-loop-number l = length l.keys.items ≡ l.number-index
