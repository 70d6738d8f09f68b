use Rattle.bb_core.proofs.MachineLaws.{led-holds}
use Rattle.bb_core.proofs.laws.every_interleaving.Goals as goal

pub returns : goal.returns
returns c = led-holds
