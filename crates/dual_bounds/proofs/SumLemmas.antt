-- The sum of a vector, column by column.
use Rattle.std.specs.Prelude.{◌≡◌, ℕ, suc, ◌<◌, ℤ, pos, ◌+ℤ◌, List, ◌∷◌, length, map, slice_index_or, drop, refl}
use Rattle.std.proofs.Common.{arith, ap, ◌∙◌}
use Rattle.std.proofs.lemmas.Int.{ints}
use Rattle.std.proofs.Math.Seq.{drop-cons}
use Rattle.int_model.specs.Boxes.{Box, Interval, interval_at}
use Rattle.int_model.specs.Programs.{Terms}
use Rattle.int_model.specs.RowSums.{least_product}
use Rattle.int_model.proofs.BoxLaws.{lows-at, highs-at}
use Rattle.dual_bounds.specs.Vectors.{Entry, reduced_cost, least_reduced}

-- one column more
pub least-more : (rows : List Terms) (scale : ℕ) (es : List Entry) (costs : List ℤ) (box : Box) (k : ℕ) (whole s r t : ℤ) → k < length costs → k < length box → whole ≡ s +ℤ least_reduced rows scale es k (drop k costs) (drop k box) → r ≡ least_product (reduced_cost rows scale es k (slice_index_or costs k (pos 0))) (interval_at box k) → t ≡ s +ℤ r → whole ≡ t +ℤ least_reduced rows scale es (suc k) (drop (suc k) costs) (drop (suc k) box)
least-more rows scale es costs box k whole s r t h g before is after =
    let cost : ℤ = slice_index_or costs k (pos 0) in
    let step : least_reduced rows scale es k (drop k costs) (drop k box) ≡ least_product (reduced_cost rows scale es k cost) (interval_at box k) +ℤ least_reduced rows scale es (suc k) (drop (suc k) costs) (drop (suc k) box) = ap (λ (xs : List ℤ). least_reduced rows scale es k xs (drop k box)) (drop-cons costs k (pos 0) h) ∙ ap (λ (b : Box). least_reduced rows scale es k (cost ∷ drop (suc k) costs) b) (drop-cons box k (record { low = pos 0; high = pos 0 }) g) in
    omega (arith, ints, before, is, after, step)

-- the interval of a column, by the lists of its ends
pub ends-of : (box : Box) (lows highs : List ℤ) (k : ℕ) → lows ≡ map (λ (i : Interval). i.low) box → highs ≡ map (λ (i : Interval). i.high) box → record { low = slice_index_or lows k (pos 0); high = slice_index_or highs k (pos 0) } ≡ interval_at box k
ends-of box lows highs k e f = rw (e, f, lows-at box k, highs-at box k) refl
