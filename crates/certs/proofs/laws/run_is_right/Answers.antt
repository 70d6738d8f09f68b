use Rattle.certs.proofs.ClaimLaws.{all_within, run_right}
use Rattle.certs.proofs.laws.run_is_right.Goals as goal

pub returns : goal.returns
returns c = λ p placed limits. run_right p placed (all_within p limits)
