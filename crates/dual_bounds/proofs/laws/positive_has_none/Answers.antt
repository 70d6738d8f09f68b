use Rattle.dual_bounds.proofs.VectorLaws.{positive-none}
use Rattle.dual_bounds.proofs.laws.positive_has_none.Goals as goal

pub returns : goal.returns
returns c = positive-none
