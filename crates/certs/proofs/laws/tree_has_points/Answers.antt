use Rattle.certs.proofs.TreeCounts.{tree-points}
use Rattle.certs.proofs.ClaimLaws.{all_within}
use Rattle.certs.proofs.laws.tree_has_points.Goals as goal

pub returns : goal.returns
returns c = λ p placed limits tree two. tree-points p (all_within p limits) limits.some_scenario placed tree two
