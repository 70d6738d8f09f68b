use Rattle.int_model.proofs.BoxLaws.{tells-points}
use Rattle.int_model.proofs.laws.box_tests.Goals as goal

pub returns : goal.returns
returns c = tells-points
