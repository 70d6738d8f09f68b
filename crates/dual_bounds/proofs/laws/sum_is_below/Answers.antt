use Rattle.dual_bounds.proofs.VectorLaws.{sum-below}
use Rattle.dual_bounds.proofs.laws.sum_is_below.Goals as goal

pub returns : goal.returns
returns c = sum-below
