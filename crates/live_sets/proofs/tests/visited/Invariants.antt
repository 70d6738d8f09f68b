use Rattle.std.proofs.Common.{◌≡◌}
use Rattle.live_sets.proofs.tests.visited.Given as goal

abbrev pub invariant-loop-s : goal.invariant-loop-s
invariant-loop-s l = l.members.items ≡ l.yielded
