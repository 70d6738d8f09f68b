use Rattle.core_machine.proofs.PoolLemmas.{begins}
use Rattle.core_machine.proofs.laws.pools_begin_as_parts.Goals as goal

pub returns : goal.returns
returns c = begins
