use Rattle.int_model.proofs.RowSumLaws.{row_sum-without}
use Rattle.int_model.proofs.laws.sums_split.Goals as goal

pub returns : goal.returns
returns c = row_sum-without
