use Rattle.std.proofs.Common.{◌≤◌, ◌^◌}
use Rattle.branching.proofs.weight.greatest_cost.Given as goal

abbrev pub invariant-loop-s : goal.invariant-loop-s
invariant-loop-s l = l.greatest ≤ 10 ^ 9
