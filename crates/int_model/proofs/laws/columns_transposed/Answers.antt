use Rattle.int_model.proofs.ByColumnLaws.{transposed}
use Rattle.int_model.proofs.laws.columns_transposed.Goals as goal

pub returns : goal.returns
returns c = transposed
