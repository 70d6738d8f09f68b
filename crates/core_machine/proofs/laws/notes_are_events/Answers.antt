use Rattle.core_machine.proofs.PoolLemmas.{noted-by}
use Rattle.core_machine.proofs.laws.notes_are_events.Goals as goal

pub returns : goal.returns
returns c = noted-by
