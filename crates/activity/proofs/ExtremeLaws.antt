-- The least and the greatest sum of a row over a box are those of points.
use Rattle.std.specs.Prelude.{◌≡◌, ◌⊎◌, ℕ, zero, suc, ◌+◌, ◌<◌, ℤ, ◌+ℤ◌, ◌*ℤ◌, ◌≤ℤ◌, List, [], ◌∷◌, length, map, slice_set, false, refl}
use Rattle.std.proofs.Common.{arith, ap, sym, ◌∙◌, inl, inr}
use Rattle.std.proofs.lemmas.Int.{ints, clamps}
use Rattle.std.specs.Int.{int_max, int_min}
use Rattle.int_model.specs.Integers.{int_at, int_sum_by}
use Rattle.int_model.specs.Boxes.{Interval, Box, InBox, interval_at, is_empty}
use Rattle.int_model.specs.Programs.{Terms, AreTerms, row_sum}
use Rattle.int_model.specs.RowSums.{least_product, greatest_product}
use Rattle.int_model.proofs.BoxLaws.{IsIn, length-InBox, tells-points}
use Rattle.int_model.proofs.RowSumLaws.{IsIn_at, least_sum-le, le-greatest_sum}
use Rattle.activity.specs.Laws.{IsAttained, AreExtremes}

-- some number of each interval has the product f
abbrev pub HasEnd : (ℤ → Interval → ℤ) → Type 0
HasEnd f = (a : ℤ) (i : Interval) → i.low ≤ℤ i.high → (v : ℤ) × IsIn i v × (a *ℤ v ≡ f a i)

min_cases : (x y : ℤ) → (int_min x y ≡ x) ⊎ (int_min x y ≡ y)
min_cases x y = grind (arith, ints, clamps)

max_cases : (x y : ℤ) → (int_max x y ≡ x) ⊎ (int_max x y ≡ y)
max_cases x y = grind (arith, ints, clamps)

least-end : HasEnd least_product
least-end a i h = elim (min_cases (a *ℤ i.low) (a *ℤ i.high)) [
  | inl e ↦ (i.low, record { low = omega (arith, ints); high = h }, sym e)
  | inr e ↦ (i.high, record { low = h; high = omega (arith, ints) }, sym e)
]

greatest-end : HasEnd greatest_product
greatest-end a i h = elim (max_cases (a *ℤ i.low) (a *ℤ i.high)) [
  | inl e ↦ (i.low, record { low = omega (arith, ints); high = h }, sym e)
  | inr e ↦ (i.high, record { low = h; high = omega (arith, ints) }, sym e)
]

at-set : (x : List ℤ) (j : ℕ) (v : ℤ) → j < length x → int_at (slice_set x j v) j ≡ v
at-set [] j v h = absurd (omega arith)
at-set (u ∷ x) zero v h = refl
at-set (u ∷ x) (suc j) v h = at-set x j v (omega arith)

at-set_other : (x : List ℤ) (j k : ℕ) (v : ℤ) → j < k → int_at (slice_set x j v) k ≡ int_at x k
at-set_other [] j k v h = refl
at-set_other (u ∷ x) zero zero v h = absurd (omega arith)
at-set_other (u ∷ x) zero (suc k) v h = refl
at-set_other (u ∷ x) (suc j) zero v h = absurd (omega arith)
at-set_other (u ∷ x) (suc j) (suc k) v h = at-set_other x j k v (omega arith)

-- another number at an earlier column leaves the sum
sum-set : (n least : ℕ) (ts : Terms) (x : List ℤ) (j : ℕ) (v : ℤ) → AreTerms least n ts → j < least → row_sum ts (slice_set x j v) ≡ row_sum ts x
sum-set n least [] x j v all h = refl
sum-set n least ((k, a) ∷ ts) x j v all h =
    let at : int_at (slice_set x j v) k ≡ int_at x k = at-set_other x j k v (omega (arith, all.0)) in
    let more : row_sum ts (slice_set x j v) ≡ row_sum ts x = sum-set n (k + 1) ts x j v all.4 (omega (arith, all.0)) in
    ap (λ (z : ℤ). a *ℤ z +ℤ row_sum ts (slice_set x j v)) at ∙ ap (λ (z : ℤ). a *ℤ int_at x k +ℤ z) more

-- a number of its interval in place of a point's number leaves a point of the box
set-in : (box : Box) (x : List ℤ) (j : ℕ) (v : ℤ) → InBox box x → j < length box → IsIn (interval_at box j) v → InBox box (slice_set x j v)
set-in [] x j v h p k = absurd (omega arith)
set-in (i ∷ box) [] j v h p k = absurd h
set-in (i ∷ box) (u ∷ x) zero v h p k = (k.low, k.high, h.2)
set-in (i ∷ box) (u ∷ x) (suc j) v h p k = (h.0, h.1, set-in box x j v h.2 (omega arith) k)

-- the sum of f over the terms and their intervals
abbrev pub sum_of : (ℤ → Interval → ℤ) → Terms → Box → ℤ
sum_of f ts box = int_sum_by (λ t. f t.1 (interval_at box t.0)) ts

-- an interval of a box that isn't empty has its low end at most at its high end
ordered : (box : Box) (j : ℕ) → is_empty box ≡ false → (interval_at box j).low ≤ℤ (interval_at box j).high
ordered box j e =
    let k : IsIn (interval_at box j) (int_at (map (λ (i : Interval). i.low) box) j) = IsIn_at box (map (λ (i : Interval). i.low) box) ((tells-points box).some e) j in
    omega (arith, ints, k.low, k.high)

with_end : (f : ℤ → Interval → ℤ) (n least j : ℕ) (a : ℤ) (ts : Terms) (box : Box) (x : List ℤ) (v : ℤ) → AreTerms least n ts → j < least → j < length box → InBox box x → row_sum ts x ≡ sum_of f ts box → IsIn (interval_at box j) v → a *ℤ v ≡ f a (interval_at box j) → IsAttained ((j, a) ∷ ts) box (f a (interval_at box j) +ℤ sum_of f ts box)
with_end f n least j a ts box x v all below column inside same isin e =
    let at : int_at (slice_set x j v) j ≡ v = at-set x j v (omega (arith, length-InBox box x inside, column)) in
    let rest : row_sum ts (slice_set x j v) ≡ row_sum ts x = sum-set n least ts x j v all below in
    (slice_set x j v, set-in box x j v inside column isin, ap (λ (z : ℤ). a *ℤ z +ℤ row_sum ts (slice_set x j v)) at ∙ ap (λ (z : ℤ). z +ℤ row_sum ts (slice_set x j v)) e ∙ ap (λ (z : ℤ). f a (interval_at box j) +ℤ z) (rest ∙ same))

attained : (f : ℤ → Interval → ℤ) → HasEnd f → (least : ℕ) (ts : Terms) (box : Box) → AreTerms least (length box) ts → is_empty box ≡ false → IsAttained ts box (sum_of f ts box)
attained f ends least [] box all e = (map (λ (i : Interval). i.low) box, (tells-points box).some e, refl)
attained f ends least ((j, a) ∷ ts) box all e =
    let more : IsAttained ts box (sum_of f ts box) = attained f ends (j + 1) ts box all.4 e in
    let v : (v : ℤ) × IsIn (interval_at box j) v × (a *ℤ v ≡ f a (interval_at box j)) = ends a (interval_at box j) (ordered box j e) in
    with_end f (length box) (j + 1) j a ts box more.0 v.0 all.4 (omega arith) all.1 more.1 more.2 v.1 v.2

pub extremes : (terms : Terms) (box : Box) → AreTerms 0 (length box) terms → is_empty box ≡ false → AreExtremes terms box
extremes terms box all e = record {
  least = attained least_product least-end 0 terms box all e;
  greatest = attained greatest_product greatest-end 0 terms box all e;
  bounds = λ x h. record { least = least_sum-le terms box x h; greatest = le-greatest_sum terms box x h };
}
