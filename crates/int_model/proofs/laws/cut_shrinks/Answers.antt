use Rattle.int_model.proofs.VolumeLaws.{shrinks}
use Rattle.int_model.proofs.laws.cut_shrinks.Goals as goal

pub returns : goal.returns
returns c = shrinks
