use Rattle.int_model.proofs.EndsLaws.{ends-table}
use Rattle.int_model.proofs.laws.ends_by_table.Goals as goal

pub returns : goal.returns
returns c = ends-table
