-- How far the least and the greatest products of terms lie apart.
use Rattle.std.specs.Prelude.{◌≡◌, ℕ, ◌+◌, ◌<◌, ◌≤◌, ℤ, pos, ◌-ℤ◌, ◌≤ℤ◌, bit_or, List, length, slice_index_or}
use Rattle.std.proofs.Common.{arith, ap, sym, ◌∙◌, below_more}
use Rattle.std.proofs.lemmas.Int.{ints, clamps}
use Rattle.std.proofs.lemmas.Nat.{le_or_l, le_or_r}
use Rattle.int_model.specs.Boxes.{Interval, box_of, interval_at}
use Rattle.int_model.specs.Programs.{Terms}
use Rattle.int_model.specs.RowSums.{least_product, greatest_product}
use Rattle.int_model.proofs.SideLemmas.{interval-at}
use Rattle.activity.specs.Sums.{spread}

pub products-ordered : (a : ℤ) (i : Interval) → least_product a i ≤ℤ greatest_product a i
products-ordered a i = omega (arith, ints, clamps)

within : (z : ℤ) (w v : ℕ) → z ≤ℤ pos w → w ≤ v → z ≤ℤ pos v
within z w v h k = omega (arith, ints, h, k)

-- one term more
pub spread-more : (ts : Terms) (lows highs : List ℤ) (i : ℕ) (d : ℕ × ℤ) (w v : ℕ) (least greatest : ℤ) → length lows ≡ length highs → ((k : ℕ) → k < i → spread (slice_index_or ts k d) (box_of lows highs) ≤ℤ pos w) → least ≡ least_product (slice_index_or ts i d).1 (record { low = slice_index_or lows (slice_index_or ts i d).0 (pos 0); high = slice_index_or highs (slice_index_or ts i d).0 (pos 0) }) → greatest ≡ greatest_product (slice_index_or ts i d).1 (record { low = slice_index_or lows (slice_index_or ts i d).0 (pos 0); high = slice_index_or highs (slice_index_or ts i d).0 (pos 0) }) → pos v ≡ greatest -ℤ least → (k : ℕ) → k < i + 1 → spread (slice_index_or ts k d) (box_of lows highs) ≤ℤ pos (bit_or w v)
spread-more ts lows highs i d w v least greatest same before is_least is_greatest apart =
    let at : interval_at (box_of lows highs) (slice_index_or ts i d).0 ≡ record { low = slice_index_or lows (slice_index_or ts i d).0 (pos 0); high = slice_index_or highs (slice_index_or ts i d).0 (pos 0) } = interval-at lows highs (slice_index_or ts i d).0 same in
    let low : least_product (slice_index_or ts i d).1 (interval_at (box_of lows highs) (slice_index_or ts i d).0) ≡ least = ap (least_product (slice_index_or ts i d).1) at ∙ sym is_least in
    let high : greatest_product (slice_index_or ts i d).1 (interval_at (box_of lows highs) (slice_index_or ts i d).0) ≡ greatest = ap (greatest_product (slice_index_or ts i d).1) at ∙ sym is_greatest in
    let here : spread (slice_index_or ts i d) (box_of lows highs) ≤ℤ pos v = omega (arith, ints, low, high, apart) in
    below_more _ i (λ k h. within _ w (bit_or w v) (before k h) (le_or_l w v)) (within _ v (bit_or w v) here (le_or_r w v))
