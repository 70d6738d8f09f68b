use Rattle.bb_core.proofs.CoverageLaws.{Covers-made}
use Rattle.bb_core.proofs.laws.settling_keeps_coverage.Goals as goal

pub returns : goal.returns
returns c = Covers-made
