use Rattle.int_model.proofs.ModelLaws.{program-fits}
use Rattle.int_model.proofs.laws.models_fit.Goals as goal

pub returns : goal.returns
returns c = program-fits
