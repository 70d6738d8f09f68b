use Rattle.dual_bounds.proofs.RefusalLaws.{unrefused-keeps, keeps-unrefused}
use Rattle.dual_bounds.proofs.laws.refuses_the_rest.Goals as goal

pub returns : goal.returns
returns c = λ scale entries. (unrefused-keeps scale entries, keeps-unrefused scale entries)
