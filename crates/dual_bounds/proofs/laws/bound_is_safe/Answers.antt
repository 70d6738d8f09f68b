use Rattle.dual_bounds.proofs.VectorLaws.{bound-safe}
use Rattle.dual_bounds.proofs.laws.bound_is_safe.Goals as goal

pub returns : goal.returns
returns c = bound-safe
