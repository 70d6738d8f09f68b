use Rattle.int_model.proofs.BoxLaws.{splits}
use Rattle.int_model.proofs.laws.cut_splits.Goals as goal

pub returns : goal.returns
returns c = splits
