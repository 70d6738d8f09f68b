-- How many columns a row has.
use Rattle.std.proofs.Common.{ℕ, ◌%◌, ◌≤◌, nat_eq, arith}
use Rattle.std.specs.List.{range_with_len}
use Rattle.std.proofs.lemmas.List.FromFn.{length-range_with_len}
use Rattle.std.proofs.lemmas.List.Sums.{length-filter, count_by-le-length}
use Rattle.model_gen.specs.Draws.{size}

pub size_at_most : (columns rows i : ℕ) → size columns rows i ≤ columns
unfolding size
size_at_most columns rows i =
    let p = λ (j : ℕ). nat_eq (j % rows) i in
    let counted = length-filter p (range_with_len 0 columns) in
    let few = count_by-le-length p (range_with_len 0 columns) in
    omega (arith, counted, few, length-range_with_len 0 columns)
