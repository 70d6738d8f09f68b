use Rattle.bb_core.proofs.CoverageLaws.{Covers-remarked}
use Rattle.bb_core.proofs.laws.marks_keep_coverage.Goals as goal

pub returns : goal.returns
returns c = Covers-remarked
