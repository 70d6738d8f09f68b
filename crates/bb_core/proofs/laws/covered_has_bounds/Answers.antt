use Rattle.certs.proofs.ClaimLaws.{all_within}
use Rattle.bb_core.proofs.CoverageLaws.{Covers-levels}
use Rattle.bb_core.proofs.laws.covered_has_bounds.Goals as goal

pub returns : goal.returns
returns c = λ p slots caps limits. Covers-levels p (all_within p limits) slots caps
