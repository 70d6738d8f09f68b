use Rattle.int_model.proofs.LimitLaws.{limits-fit}
use Rattle.int_model.proofs.laws.limits_fit.Goals as goal

pub returns : goal.returns
returns c = limits-fit
