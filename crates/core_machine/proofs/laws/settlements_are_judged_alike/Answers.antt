use Rattle.core_machine.proofs.PoolLemmas.{judged-alike}
use Rattle.core_machine.proofs.laws.settlements_are_judged_alike.Goals as goal

pub returns : goal.returns
returns c = judged-alike
