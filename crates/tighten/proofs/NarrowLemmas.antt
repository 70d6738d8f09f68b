-- What an end leaves of an interval, by the numbers that the code takes.
use Rattle.std.specs.Prelude.{◌≡◌, ℕ, zero, suc, ◌<◌, ℤ, pos, negsuc, ◌≤ℤ◌, ◌<ℤ◌, int_lt, false, List, length, slice_index_or, Some, refl}
use Rattle.std.proofs.Common.{arith, subst}
use Rattle.std.proofs.lemmas.Int.{ints, clamps}
use Rattle.std.specs.Int.{int_div_euclid}
use Rattle.int_model.specs.Limits.{IsBound}
use Rattle.int_model.specs.Boxes.{Interval, Box, box_of, interval_at, is_empty, at_most, at_least}
use Rattle.int_model.specs.Programs.{Terms}
use Rattle.int_model.proofs.BoxLaws.{tells-points}
use Rattle.int_model.proofs.RowSumLaws.{IsIn_at}
use Rattle.int_model.proofs.SideLemmas.{interval-at}
use Rattle.activity.specs.Sums.{AreSummed}
use Rattle.tighten.specs.Replay.{narrowed}
use Rattle.tighten.specs.Steps.{IsLeft}

pub narrowed-above : (a c : ℤ) (i : Interval) → pos 0 <ℤ a → narrowed a c i ≡ at_most i (int_div_euclid c a)
narrowed-above (pos zero) c i h = absurd (omega (arith, ints, h))
narrowed-above (pos (suc n)) c i h = refl
narrowed-above (negsuc n) c i h = absurd (omega (arith, ints, h))

pub narrowed-below : (a c : ℤ) (i : Interval) → a <ℤ pos 0 → narrowed a c i ≡ at_least i (int_div_euclid c a)
narrowed-below (pos n) c i h = absurd (omega (arith, ints, h))
narrowed-below (negsuc n) c i h = refl

pub narrowed-none : (a c : ℤ) (i : Interval) → a ≡ pos 0 → narrowed a c i ≡ i
narrowed-none (pos zero) c i h = refl
narrowed-none (pos (suc n)) c i h = absurd (omega (arith, ints, h))
narrowed-none (negsuc n) c i h = absurd (omega (arith, ints, h))

abbrev pub interval : ℤ → ℤ → Interval
interval l h = record { low = l; high = h }

-- what is known of a column's interval
pub record ColumnFacts (lows highs : List ℤ) (j : ℕ) : Type 0 where
  pub low_small : IsBound (slice_index_or lows j (pos 0))
  pub high_small : IsBound (slice_index_or highs j (pos 0))
  pub ordered : slice_index_or lows j (pos 0) ≤ℤ slice_index_or highs j (pos 0)
  pub at : interval_at (box_of lows highs) j ≡ interval (slice_index_or lows j (pos 0)) (slice_index_or highs j (pos 0))

-- an interval of a box that isn't empty has its low end at most at its high end
ordered_at : (box : Box) (j : ℕ) → is_empty box ≡ false → (interval_at box j).low ≤ℤ (interval_at box j).high
ordered_at box j e =
    let k = IsIn_at box _ ((tells-points box).some e) j in
    omega (arith, ints, k.low, k.high)

pub column-facts : (terms : Terms) (lows highs : List ℤ) (j : ℕ) → AreSummed terms lows highs → j < length lows → is_empty (box_of lows highs) ≡ false → ColumnFacts lows highs j
column-facts terms lows highs j s h e =
    let at = interval-at lows highs j s.sides in
    record {
      low_small = s.lows j (pos 0) h;
      high_small = s.highs j (pos 0) (omega (arith, h, s.sides));
      ordered = subst (λ (i : Interval). i.low ≤ℤ i.high) at (ordered_at (box_of lows highs) j e);
      at = at;
    }

-- the interval cut above at a number of it
pub cut-above-left : (most l h : ℤ) → IsBound l → IsBound h → l ≤ℤ most → most <ℤ h → IsLeft (at_most (interval l h) most) (Some (l, most))
cut-above-left most l h k m p q =
    let occupied : int_lt most l ≡ false = grind (arith, ints, p) in
    let small : IsBound most = omega (arith, ints, k, m, p, q) in
    (refl, omega (arith, ints, clamps, q), k, small, occupied)
