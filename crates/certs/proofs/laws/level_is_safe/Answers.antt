use Rattle.certs.proofs.LevelLaws.{judged-le}
use Rattle.certs.proofs.laws.level_is_safe.Goals as goal

pub returns : goal.returns
returns c = judged-le
