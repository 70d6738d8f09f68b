use Rattle.core_machine.proofs.PoolLemmas.{answered-by}
use Rattle.core_machine.proofs.laws.settlements_are_events.Goals as goal

pub returns : goal.returns
returns c = answered-by
