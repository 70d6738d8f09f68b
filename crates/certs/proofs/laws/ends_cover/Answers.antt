use Rattle.certs.proofs.TreeLaws.{some_end}
use Rattle.certs.proofs.ClaimLaws.{all_within}
use Rattle.certs.proofs.laws.ends_cover.Goals as goal

pub returns : goal.returns
returns c = λ p placed limits tree k s found x f. some_end p (all_within p limits) placed tree k s found x f
