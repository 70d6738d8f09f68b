use Rattle.core_machine.proofs.PoolLemmas.{claimed-by}
use Rattle.core_machine.proofs.laws.claims_are_events.Goals as goal

pub returns : goal.returns
returns c = claimed-by
