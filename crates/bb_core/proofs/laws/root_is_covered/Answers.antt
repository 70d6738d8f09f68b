use Rattle.bb_core.proofs.CoverageLaws.{Covers-root}
use Rattle.bb_core.proofs.laws.root_is_covered.Goals as goal

pub returns : goal.returns
returns c = Covers-root
