-- Products within the limits, and one term more of a sum.
use Rattle.std.proofs.Common.{◌⊎◌, inl, inr, ◌*◌, ◌≤ℤ◌, false, subst, ◌≡◌, ◌∙◌, ap, sym, ℕ, ◌+◌, ◌^◌, ◌<◌, ◌≤◌, ℤ, pos, ◌+ℤ◌, ◌*ℤ◌, unsigned_abs, List, [], ◌∷◌, length, get_or, drop, refl, arith, zero, suc, FitsSigned, w64, to_z, of_z, add-one, drop-cons}
use Rattle.std.proofs.Math.Nat.{mul-le-mul}
use Rattle.std.proofs.Math.ListN.{drop_of_length-le}
use Rattle.std.proofs.lemmas.Int.{ints, clamps, unsigned_abs-mul, fits_signed_from_abs, to_z-of_z}
use Rattle.int_model.specs.Limits.{IsBound, IsEntry}
use Rattle.int_model.specs.Boxes.{Box, Interval, BoundsWithin, box_of, interval_at, is_empty}
use Rattle.int_model.specs.Programs.{Terms, AreTerms}
use Rattle.int_model.specs.Integers.{int_sum_by}
use Rattle.int_model.specs.RowSums.{least_product, greatest_product, least_sum, greatest_sum}
use Rattle.int_model.proofs.SideLemmas.{interval-at, sides-within}
use Rattle.int_model.proofs.BoxLaws.{tells-points, BoundsWithin-at}
use Rattle.int_model.proofs.RowSumLaws.{IsIn_at}
use Rattle.activity.specs.Sums.{AreSummed}

pub product_limit : (a b : ℤ) → IsEntry a → IsBound b → unsigned_abs (a *ℤ b) ≤ 10 ^ 15
product_limit a b ha hb = rw unsigned_abs-mul (mul-le-mul ha hb)

-- a product as the code has it, by way of bits
pub product_kept : (a b r : ℤ) → IsEntry a → IsBound b → r ≡ b → to_z w64 (of_z w64 (to_z w64 (of_z w64 a) *ℤ to_z w64 (of_z w64 r))) ≡ a *ℤ b
product_kept a b r ha hb same =
    let a_fits : FitsSigned w64 a = omega (arith, ints) in
    let b_fits : FitsSigned w64 b = omega (arith, ints) in
    let fits : FitsSigned w64 (a *ℤ b) = fits_signed_from_abs w64 (a *ℤ b) (omega (arith, product_limit a b ha hb)) in
    rw (same, to_z-of_z w64 a a_fits, to_z-of_z w64 b b_fits) (to_z-of_z w64 (a *ℤ b) fits)

-- what holds of a term at its place
pub record IsTerm (n : ℕ) (t : ℕ × ℤ) : Type 0 where
  pub column : t.0 < n
  pub entry : IsEntry t.1

pub term_at : (least n : ℕ) (ts : Terms) (i : ℕ) (d : ℕ × ℤ) → AreTerms least n ts → i < length ts → IsTerm n (get_or ts i d)
term_at least n [] i d all h = absurd (omega arith)
term_at least n (t ∷ ts) zero d all h = record { column = all.1; entry = all.2 }
term_at least n (t ∷ ts) (suc i) d all h = term_at (t.0 + 1) n ts i d all.4 (omega arith)

-- Columns rise, so there are no more terms than columns.
pub few_terms : (least n : ℕ) (ts : Terms) → AreTerms least n ts → least ≤ n → length ts + least ≤ n
few_terms least n [] all le = omega arith
few_terms least n (t ∷ ts) all le = omega (arith, few_terms (t.0 + 1) n ts all.4 (omega (arith, all.1)), all.0)

-- the sum of f over the terms and their intervals
abbrev pub sum_of : (ℤ → Interval → ℤ) → Terms → Box → ℤ
sum_of f ts box = int_sum_by (λ t. f t.1 (interval_at box t.0)) ts

sum_of-drop : (f : ℤ → Interval → ℤ) (ts : Terms) (box : Box) (i : ℕ) (d : ℕ × ℤ) → i < length ts → sum_of f (drop i ts) box ≡ f (get_or ts i d).1 (interval_at box (get_or ts i d).0) +ℤ sum_of f (drop (i + 1) ts) box
sum_of-drop f ts box i d h = rw (add-one, drop-cons ts i d) refl

-- one term more
pub sum_of-more : (f : ℤ → Interval → ℤ) (ts : Terms) (lows highs : List ℤ) (i : ℕ) (d : ℕ × ℤ) (s r t : ℤ) → length lows ≡ length highs → i < length ts → sum_of f ts (box_of lows highs) ≡ s +ℤ sum_of f (drop i ts) (box_of lows highs) → r ≡ f (get_or ts i d).1 (record { low = get_or lows (get_or ts i d).0 (pos 0); high = get_or highs (get_or ts i d).0 (pos 0) }) → t ≡ s +ℤ r → sum_of f ts (box_of lows highs) ≡ t +ℤ sum_of f (drop (i + 1) ts) (box_of lows highs)
sum_of-more f ts lows highs i d s r t same h before is after =
    let at : f (get_or ts i d).1 (interval_at (box_of lows highs) (get_or ts i d).0) ≡ r = ap (f (get_or ts i d).1) (interval-at lows highs (get_or ts i d).0 same) ∙ sym is in
    omega (arith, ints, before, after, at, sum_of-drop f ts (box_of lows highs) i d h)

pub sum_of-end : (f : ℤ → Interval → ℤ) (ts : Terms) (box : Box) (i : ℕ) → length ts ≤ i → sum_of f (drop i ts) box ≡ pos 0
sum_of-end f ts box i h = rw (drop_of_length-le ts h) refl

-- an interval of a box that isn't empty has its low end at most at its high end
pub ordered : (box : Box) (j : ℕ) → is_empty box ≡ false → (interval_at box j).low ≤ℤ (interval_at box j).high
ordered box j e =
    let k = IsIn_at box _ ((tells-points box).some e) j in
    omega (arith, ints, k.low, k.high)

pub ordered-at : (lows highs : List ℤ) (j : ℕ) → length lows ≡ length highs → is_empty (box_of lows highs) ≡ false → get_or lows j (pos 0) ≤ℤ get_or highs j (pos 0)
ordered-at lows highs j same e = subst (λ (i : Interval). i.low ≤ℤ i.high) (interval-at lows highs j same) (ordered (box_of lows highs) j e)

-- ---- sums within the limits

product_within : (f : ℤ → Interval → ℤ) → ((a : ℤ) (i : Interval) → (f a i ≡ a *ℤ i.low) ⊎ (f a i ≡ a *ℤ i.high)) → (a : ℤ) (i : Interval) → IsEntry a → IsBound i.low → IsBound i.high → unsigned_abs (f a i) ≤ 10 ^ 15
product_within f ends a i ha hl hh = elim (ends a i) [
  | inl e ↦ rw e (product_limit a i.low ha hl)
  | inr e ↦ rw e (product_limit a i.high ha hh)
]

sum_within : (f : ℤ → Interval → ℤ) → ((a : ℤ) (i : Interval) → (f a i ≡ a *ℤ i.low) ⊎ (f a i ≡ a *ℤ i.high)) → (least n : ℕ) (ts : Terms) (box : Box) → AreTerms least n ts → BoundsWithin (10 ^ 6) box → unsigned_abs (sum_of f ts box) ≤ 10 ^ 15 * length ts
sum_within f ends least n [] box all w = omega (arith, ints)
sum_within f ends least n (t ∷ ts) box all w =
    let at = BoundsWithin-at (10 ^ 6) box t.0 w in
    omega (arith, ints, product_within f ends t.1 (interval_at box t.0) all.2 at.0 at.1, sum_within f ends (t.0 + 1) n ts box all.4 w)

least_ends : (a : ℤ) (i : Interval) → (least_product a i ≡ a *ℤ i.low) ⊎ (least_product a i ≡ a *ℤ i.high)
least_ends a i = grind (arith, ints, clamps)

greatest_ends : (a : ℤ) (i : Interval) → (greatest_product a i ≡ a *ℤ i.low) ⊎ (greatest_product a i ≡ a *ℤ i.high)
greatest_ends a i = grind (arith, ints, clamps)

pub least_sum-limit : (ts : Terms) (lows highs : List ℤ) → AreSummed ts lows highs → unsigned_abs (least_sum ts (box_of lows highs)) ≤ 10 ^ 18
least_sum-limit ts lows highs s =
    let w = sides-within lows highs (record { same_length = s.sides; small_lows = s.lows; small_highs = s.highs }) in
    omega (arith, s.few, few_terms 0 _ ts s.row (omega arith), sum_within least_product least_ends 0 _ ts (box_of lows highs) s.row w)

pub greatest_sum-limit : (ts : Terms) (lows highs : List ℤ) → AreSummed ts lows highs → unsigned_abs (greatest_sum ts (box_of lows highs)) ≤ 10 ^ 18
greatest_sum-limit ts lows highs s =
    let w = sides-within lows highs (record { same_length = s.sides; small_lows = s.lows; small_highs = s.highs }) in
    omega (arith, s.few, few_terms 0 _ ts s.row (omega arith), sum_within greatest_product greatest_ends 0 _ ts (box_of lows highs) s.row w)
