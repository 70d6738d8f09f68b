use Rattle.activity.proofs.ExtremeLaws.{extremes}
use Rattle.activity.proofs.laws.sums_are_extremes.Goals as goal

pub returns : goal.returns
returns c = extremes
