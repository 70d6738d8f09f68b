use Rattle.std.proofs.Common.{◌*◌}
use Rattle.open_pool.specs.Agenda.{FirstIn}
use Rattle.open_pool.proofs.agenda.Agenda.next.Given as goal

abbrev pub invariant-loop-k : goal.invariant-loop-k
invariant-loop-k l = FirstIn l.slots 0 (l.k * 128) l.best
