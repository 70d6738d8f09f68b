use Rattle.std.proofs.Common.{arith, ◌+◌}
use Rattle.open_pool.proofs.agenda.first_from.Goals as goal

pub loop-n-preserved : goal.loop-n-preserved
loop-n-preserved c = c.better-best.ensures c.args.start c.loop-n.n (c.loop-n.n + 1) (omega arith) (omega arith) c.loop-n.invariant c.if_open.ensures
