use Rattle.tree_log.proofs.LengthLaws.{log_short}
use Rattle.tree_log.proofs.laws.logs_are_short.Goals as goal

pub returns : goal.returns
returns c = log_short
