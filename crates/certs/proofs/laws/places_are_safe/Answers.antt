use Rattle.certs.proofs.TreeLevels.{place-below}
use Rattle.certs.proofs.ClaimLaws.{all_within}
use Rattle.certs.proofs.laws.places_are_safe.Goals as goal

pub returns : goal.returns
returns c = λ p placed limits tree n node place e k s l found g x f i. place-below p (all_within p limits) placed tree k s found x f n node place e i l g
