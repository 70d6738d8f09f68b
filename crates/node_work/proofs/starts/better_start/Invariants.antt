use Rattle.std.proofs.Common.{◌≡◌}
use Rattle.node_work.proofs.starts.better_start.Given as goal

abbrev pub invariant-loop-k : goal.invariant-loop-k
invariant-loop-k l = l.best.scale ≡ 4096
