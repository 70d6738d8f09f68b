use Rattle.certs.proofs.ClaimLaws.{all_within}
use Rattle.certs.proofs.LimitLaws.{bound-fits}
use Rattle.certs.proofs.laws.bounds_fit.Goals as goal

pub returns : goal.returns
returns c = λ p placed limits. bound-fits p placed (all_within p limits)
