use Rattle.certs.proofs.ClaimLaws.{all_within}
use Rattle.bb_core.proofs.CoverageLaws.{Covers-nothing_lost}
use Rattle.bb_core.proofs.laws.covered_loses_nothing.Goals as goal

pub returns : goal.returns
returns c = λ p slots caps limits. Covers-nothing_lost p (all_within p limits) slots caps
