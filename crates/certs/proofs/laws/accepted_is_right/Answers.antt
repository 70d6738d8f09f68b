use Rattle.certs.proofs.TreeLaws.{Accepted-right}
use Rattle.certs.proofs.ClaimLaws.{all_within}
use Rattle.certs.proofs.laws.accepted_is_right.Goals as goal

pub returns : goal.returns
returns c = λ p answers nodes limits. Accepted-right p answers nodes (all_within p limits)
