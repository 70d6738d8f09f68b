use Rattle.core_machine.proofs.PoolLemmas.{lowered-by}
use Rattle.core_machine.proofs.laws.lowered_caps_are_notes.Goals as goal

pub returns : goal.returns
returns c = lowered-by
