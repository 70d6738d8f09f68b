use Rattle.certs.proofs.TreeCounts.{tree-length}
use Rattle.certs.proofs.ClaimLaws.{all_within}
use Rattle.certs.proofs.laws.tree_is_small.Goals as goal

pub returns : goal.returns
returns c = λ p placed limits tree v. tree-length p (all_within p limits) limits.some_scenario placed tree v
