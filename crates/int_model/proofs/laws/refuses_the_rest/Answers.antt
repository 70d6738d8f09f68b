use Rattle.int_model.proofs.RefusalLaws.{unrefused-parts, parts-unrefused}
use Rattle.int_model.proofs.laws.refuses_the_rest.Goals as goal

pub returns : goal.returns
returns c = λ columns rows constant. (unrefused-parts columns rows constant, parts-unrefused columns rows constant)
