use Rattle.certs.proofs.LevelLaws.{start-le}
use Rattle.certs.proofs.laws.start_is_safe.Goals as goal

pub returns : goal.returns
returns c = start-le
