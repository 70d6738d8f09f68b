use Rattle.std.proofs.lemmas.Bool.{both_ways}
use Rattle.int_model.specs.RowSums.{row_misses}
use Rattle.int_model.proofs.RowSumLaws.{row_misses-none}
use Rattle.int_model.proofs.laws.missed_has_none.Goals as goal

pub returns : goal.returns
returns c = λ p i box e x f h. both_ways (row_misses p i box) (row_misses-none p i box x f h) e
