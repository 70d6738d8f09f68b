use Rattle.core_machine.proofs.PoolLemmas.{stays-part}
use Rattle.core_machine.proofs.laws.other_give_backs_are_none.Goals as goal

pub returns : goal.returns
returns c = stays-part
