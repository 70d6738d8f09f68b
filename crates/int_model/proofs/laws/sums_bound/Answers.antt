use Rattle.int_model.proofs.RowSumLaws.{least_sum-le, le-greatest_sum}
use Rattle.int_model.proofs.laws.sums_bound.Goals as goal

pub returns : goal.returns
returns c = λ terms box x h. record { least = least_sum-le terms box x h; greatest = le-greatest_sum terms box x h }
