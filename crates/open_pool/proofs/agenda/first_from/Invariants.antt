use Rattle.open_pool.specs.Agenda.{FirstIn}
use Rattle.open_pool.proofs.agenda.first_from.Given as goal

abbrev pub invariant-loop-n : goal.invariant-loop-n
invariant-loop-n l = FirstIn l.slots l.start l.n l.best
