use Rattle.core_machine.proofs.PoolLemmas.{reopened-by}
use Rattle.core_machine.proofs.laws.give_backs_are_events.Goals as goal

pub returns : goal.returns
returns c = reopened-by
