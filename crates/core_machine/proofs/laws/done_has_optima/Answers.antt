use Rattle.core_machine.proofs.PoolLemmas.{done-optima}
use Rattle.core_machine.proofs.laws.done_has_optima.Goals as goal

pub returns : goal.returns
returns c = done-optima
