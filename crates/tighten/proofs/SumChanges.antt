-- How the sums of rows change where one column gets another interval.
use Rattle.std.specs.Prelude.{◌≡◌, ◌⊎◌, ◌≢◌, ℕ, zero, suc, ◌+◌, ◌<◌, ℤ, pos, ◌+ℤ◌, ◌-ℤ◌, ◌*ℤ◌, ◌≤ℤ◌, ◌<ℤ◌, neg_ℤ, unsigned_abs, int_lt, Bool, true, false, cond, not, nat_eq, [], ◌∷◌, length, take, slice_index_or, slice_set, if◌then◌else◌, refl}
use Rattle.std.proofs.Common.{arith, add-one, ap, inl, inr}
use Rattle.std.proofs.lemmas.Bool.Decides.{nat_tests}
use Rattle.std.proofs.lemmas.Int.{ints}
use Rattle.int_model.specs.Integers.{int_sum_by}
use Rattle.int_model.specs.Boxes.{Interval, Box, interval_at}
use Rattle.int_model.specs.Programs.{Terms, AreTerms}
use Rattle.int_model.specs.RowSums.{coefficient, without, least_product, greatest_product, least_sum, greatest_sum}
use Rattle.int_model.proofs.IntegerLaws.{mul-add, neg-mul}
use Rattle.activity.proofs.ProductLemmas.{ends-above, ends-below}
use Rattle.tighten.specs.Sums.{change}
use Rattle.tighten.proofs.OtherTerms.{column-above, least_sum-split, greatest_sum-split}

pub interval-set : (box : Box) (j : ℕ) (i : Interval) → j < length box → interval_at (slice_set box j i) j ≡ i
interval-set [] j i h = absurd (omega arith)
interval-set (k ∷ box) zero i h = refl
interval-set (k ∷ box) (suc j) i h = interval-set box j i (omega arith)

pub interval-set_other : (box : Box) (j k : ℕ) (i : Interval) → k ≢ j → interval_at (slice_set box j i) k ≡ interval_at box k
interval-set_other [] j k i h = refl
interval-set_other (v ∷ box) zero zero i h = absurd (h refl)
interval-set_other (v ∷ box) zero (suc k) i h = refl
interval-set_other (v ∷ box) (suc j) zero i h = refl
interval-set_other (v ∷ box) (suc j) (suc k) i h = interval-set_other box j k i (λ e. h (ap (λ n. suc n) e))

-- the sum of f over the terms and their intervals
abbrev pub sum_of : (ℤ → Interval → ℤ) → Terms → Box → ℤ
sum_of f ts box = int_sum_by (λ t. f t.1 (interval_at box t.0)) ts

abbrev same_others : (ℤ → Interval → ℤ) → ℕ → ℕ → ℤ → Terms → Box → Interval → Bool → Type 0
same_others f j k a ts box i b = sum_of f (cond (not b) ((k, a) ∷ without j ts) (without j ts)) (slice_set box j i) ≡ sum_of f (cond (not b) ((k, a) ∷ without j ts) (without j ts)) box

others_by : (f : ℤ → Interval → ℤ) (j k : ℕ) (a : ℤ) (ts : Terms) (box : Box) (i : Interval) → sum_of f (without j ts) (slice_set box j i) ≡ sum_of f (without j ts) box → (b : Bool) → nat_eq k j ≡ b → same_others f j k a ts box i b
others_by f j k a ts box i more true e = more
others_by f j k a ts box i more false e =
    let other : k ≢ j = grind (arith, nat_tests) in
    omega (arith, ints, ap (f a) (interval-set_other box j k i other), more)

-- the other columns' terms have the same sum over the box with another interval
pub others-set : (f : ℤ → Interval → ℤ) (j : ℕ) (ts : Terms) (box : Box) (i : Interval) → sum_of f (without j ts) (slice_set box j i) ≡ sum_of f (without j ts) box
others-set f j [] box i = refl
others-set f j ((k, a) ∷ ts) box i = others_by f j k a ts box i (others-set f j ts box i) (nat_eq k j) refl

-- ---- one product

pub sign_of : (a : ℤ) → ((pos 0 <ℤ a) × (int_lt (pos 0) a ≡ true)) ⊎ ((a ≤ℤ pos 0) × (int_lt (pos 0) a ≡ false))
sign_of a = grind (arith, ints)

change-above : (u v a : ℤ) → int_lt (pos 0) a ≡ true → change u v a ≡ a *ℤ u
change-above u v a e = rw e refl

change-below : (u v a : ℤ) → int_lt (pos 0) a ≡ false → change u v a ≡ a *ℤ v
change-below u v a e = rw e refl

pub mul-sub : (a x y : ℤ) → a *ℤ (x -ℤ y) ≡ a *ℤ x -ℤ a *ℤ y
mul-sub a x y =
    let whole : (x -ℤ y) +ℤ y ≡ x = omega (arith, ints) in
    omega (arith, ints, mul-add a (x -ℤ y) y, ap (λ (z : ℤ). a *ℤ z) whole)

-- how far the two products lie apart
pub product-spread : (a : ℤ) (i : Interval) → i.low ≤ℤ i.high → greatest_product a i -ℤ least_product a i ≡ pos (unsigned_abs a) *ℤ (i.high -ℤ i.low)
product-spread a i o = elim (sign_of a) [
  | inl s ↦
      let size : pos (unsigned_abs a) ≡ a = omega (arith, ints, s.0) in
      omega (arith, ints, mul-sub a i.high i.low, (ends-above a i s.0 o).least, (ends-above a i s.0 o).greatest, ap (λ (z : ℤ). z *ℤ (i.high -ℤ i.low)) size)
  | inr s ↦
      let size : pos (unsigned_abs a) ≡ neg_ℤ a = omega (arith, ints, s.0) in
      omega (arith, ints, mul-sub a i.high i.low, neg-mul a (i.high -ℤ i.low), (ends-below a i s.0 o).least, (ends-below a i s.0 o).greatest, ap (λ (z : ℤ). z *ℤ (i.high -ℤ i.low)) size)
]

-- a product with one end in place of another
moved : (a x y p q c : ℤ) → p ≡ a *ℤ x → q ≡ a *ℤ y → c ≡ a *ℤ (y -ℤ x) → q ≡ p +ℤ c
moved a x y p q c e f g = omega (arith, ints, e, f, g, mul-sub a y x)

pub least-change : (a : ℤ) (i k : Interval) → i.low ≤ℤ i.high → k.low ≤ℤ k.high → least_product a k ≡ least_product a i +ℤ change (k.low -ℤ i.low) (k.high -ℤ i.high) a
least-change a i k h g = elim (sign_of a) [
  | inl s ↦ moved a i.low k.low _ _ _ (ends-above a i s.0 h).least (ends-above a k s.0 g).least (change-above _ _ a s.1)
  | inr s ↦ moved a i.high k.high _ _ _ (ends-below a i s.0 h).least (ends-below a k s.0 g).least (change-below _ _ a s.1)
]

pub greatest-change : (a : ℤ) (i k : Interval) → i.low ≤ℤ i.high → k.low ≤ℤ k.high → greatest_product a k ≡ greatest_product a i +ℤ change (k.high -ℤ i.high) (k.low -ℤ i.low) a
greatest-change a i k h g = elim (sign_of a) [
  | inl s ↦ moved a i.high k.high _ _ _ (ends-above a i s.0 h).greatest (ends-above a k s.0 g).greatest (change-above _ _ a s.1)
  | inr s ↦ moved a i.low k.low _ _ _ (ends-below a i s.0 h).greatest (ends-below a k s.0 g).greatest (change-below _ _ a s.1)
]

-- ---- a row's sum

pub least_sum-moved : (n : ℕ) (ts : Terms) (box : Box) (j : ℕ) (k : Interval) → AreTerms 0 n ts → j < length box → (interval_at box j).low ≤ℤ (interval_at box j).high → k.low ≤ℤ k.high → least_sum ts (slice_set box j k) ≡ least_sum ts box +ℤ change (k.low -ℤ (interval_at box j).low) (k.high -ℤ (interval_at box j).high) (coefficient j ts)
least_sum-moved n ts box j k all inside h g =
    let at : least_product (coefficient j ts) (interval_at (slice_set box j k) j) ≡ least_product (coefficient j ts) k = ap (least_product (coefficient j ts)) (interval-set box j k inside) in
    omega (arith, ints, least_sum-split n j ts box all, least_sum-split n j ts (slice_set box j k) all, at, others-set least_product j ts box k, least-change (coefficient j ts) (interval_at box j) k h g)

pub greatest_sum-moved : (n : ℕ) (ts : Terms) (box : Box) (j : ℕ) (k : Interval) → AreTerms 0 n ts → j < length box → (interval_at box j).low ≤ℤ (interval_at box j).high → k.low ≤ℤ k.high → greatest_sum ts (slice_set box j k) ≡ greatest_sum ts box +ℤ change (k.high -ℤ (interval_at box j).high) (k.low -ℤ (interval_at box j).low) (coefficient j ts)
greatest_sum-moved n ts box j k all inside h g =
    let at : greatest_product (coefficient j ts) (interval_at (slice_set box j k) j) ≡ greatest_product (coefficient j ts) k = ap (greatest_product (coefficient j ts)) (interval-set box j k inside) in
    omega (arith, ints, greatest_sum-split n j ts box all, greatest_sum-split n j ts (slice_set box j k) all, at, others-set greatest_product j ts box k, greatest-change (coefficient j ts) (interval_at box j) k h g)

-- ---- the terms of a column, one after another

coefficient_more : (ts : Terms) (j k : ℕ) (d : ℕ × ℤ) → k < length ts → coefficient j (take (suc k) ts) ≡ coefficient j (take k ts) +ℤ (if nat_eq (slice_index_or ts k d).0 j then (slice_index_or ts k d).1 else pos 0)
coefficient_more [] j k d h = absurd (omega arith)
coefficient_more (t ∷ ts) j zero d h = omega (arith, ints)
coefficient_more (t ∷ ts) j (suc k) d h = omega (arith, ints, coefficient_more ts j k d (omega arith))

pub coefficient-more : (ts : Terms) (j k : ℕ) (d : ℕ × ℤ) → k < length ts → coefficient j (take (k + 1) ts) ≡ coefficient j (take k ts) +ℤ (if nat_eq (slice_index_or ts k d).0 j then (slice_index_or ts k d).1 else pos 0)
coefficient-more ts j k d h = rw add-one (coefficient_more ts j k d h)

-- no earlier term has the column of the term at k
pub coefficient-before : (least n : ℕ) (ts : Terms) (k : ℕ) (d : ℕ × ℤ) → AreTerms least n ts → k < length ts → coefficient (slice_index_or ts k d).0 (take k ts) ≡ pos 0
coefficient-before least n [] k d all h = absurd (omega arith)
coefficient-before least n (t ∷ ts) zero d all h = refl
coefficient-before least n (t ∷ ts) (suc k) d all h =
    let later : t.0 < (slice_index_or ts k d).0 = omega (arith, column-above (t.0 + 1) n ts k d all.4 (omega arith)) in
    let other : nat_eq t.0 (slice_index_or ts k d).0 ≡ false = grind (arith, nat_tests) in
    rw other (omega (arith, ints, coefficient-before (t.0 + 1) n ts k d all.4 (omega arith)))
