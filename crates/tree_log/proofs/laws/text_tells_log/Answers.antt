use Rattle.tree_log.proofs.RoundTrip.{text_tells}
use Rattle.tree_log.proofs.laws.text_tells_log.Goals as goal

pub returns : goal.returns
returns c = text_tells
