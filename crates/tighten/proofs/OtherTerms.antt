-- The coefficient of a column, and the sums of a row's other terms.
use Rattle.std.specs.Prelude.{◌≡◌, ℕ, zero, suc, ◌+◌, ◌<◌, ◌≤◌, ℤ, pos, ◌+ℤ◌, [], ◌∷◌, length, slice_index_or, Bool, true, false, not, cond, nat_eq, refl}
use Rattle.std.proofs.Common.{arith, ap, ◌∙◌}
use Rattle.std.proofs.lemmas.Bool.Decides.{nat_tests}
use Rattle.std.proofs.lemmas.Int.{ints, clamps}
use Rattle.int_model.specs.Limits.{IsEntry}
use Rattle.int_model.specs.Integers.{int_sum_by}
use Rattle.int_model.specs.Boxes.{Interval, Box, interval_at}
use Rattle.int_model.specs.Programs.{Terms, AreTerms}
use Rattle.int_model.specs.RowSums.{coefficient, without, least_product, greatest_product, least_sum, greatest_sum}

-- no term from column least on is one of an earlier column
pub coefficient-earlier : (least n : ℕ) (ts : Terms) (j : ℕ) → AreTerms least n ts → j < least → coefficient j ts ≡ pos 0
coefficient-earlier least n [] j all h = refl
coefficient-earlier least n ((k, a) ∷ ts) j all h =
    let other : nat_eq k j ≡ false = grind (arith, nat_tests, all.0) in
    rw other (omega (arith, ints, coefficient-earlier (k + 1) n ts j all.4 (omega (arith, all.0))))

-- columns rise, so none lies below the least
pub column-above : (least n : ℕ) (ts : Terms) (i : ℕ) (d : ℕ × ℤ) → AreTerms least n ts → i < length ts → least ≤ (slice_index_or ts i d).0
column-above least n [] i d all h = absurd (omega arith)
column-above least n (t ∷ ts) zero d all h = all.0
column-above least n (t ∷ ts) (suc i) d all h = omega (arith, column-above (t.0 + 1) n ts i d all.4 (omega arith), all.0)

-- the coefficient is that of the term of the column
pub coefficient-at : (least n : ℕ) (ts : Terms) (i j : ℕ) (d : ℕ × ℤ) → AreTerms least n ts → i < length ts → (slice_index_or ts i d).0 ≡ j → coefficient j ts ≡ (slice_index_or ts i d).1
coefficient-at least n [] i j d all h e = absurd (omega arith)
coefficient-at least n ((k, a) ∷ ts) zero j d all h e =
    let same : nat_eq k j ≡ true = grind (arith, nat_tests) in
    let rest : coefficient j ts ≡ pos 0 = coefficient-earlier (k + 1) n ts j all.4 (omega arith) in
    rw (same, rest) (omega (arith, ints))
coefficient-at least n ((k, a) ∷ ts) (suc i) j d all h e =
    let more : coefficient j ts ≡ (slice_index_or ts i d).1 = coefficient-at (k + 1) n ts i j d all.4 (omega arith) e in
    let later : k < (slice_index_or ts i d).0 = omega (arith, column-above (k + 1) n ts i d all.4 (omega arith)) in
    let other : nat_eq k j ≡ false = grind (arith, nat_tests) in
    let whole : pos 0 +ℤ coefficient j ts ≡ coefficient j ts = omega (arith, ints) in
    rw other (whole ∙ more)

entry_by : (least n k : ℕ) (a : ℤ) (ts : Terms) (j : ℕ) → AreTerms least n ((k, a) ∷ ts) → IsEntry (coefficient j ts) → (b : Bool) → nat_eq k j ≡ b → IsEntry (cond b a (pos 0) +ℤ coefficient j ts)
entry_by least n k a ts j all more true e =
    let none : coefficient j ts ≡ pos 0 = coefficient-earlier (k + 1) n ts j all.4 (grind (arith, nat_tests)) in
    omega (arith, ints, none, all.2)
entry_by least n k a ts j all more false e = omega (arith, ints, more)

-- the coefficient of a column is within the limit
pub coefficient-entry : (least n : ℕ) (ts : Terms) (j : ℕ) → AreTerms least n ts → IsEntry (coefficient j ts)
coefficient-entry least n [] j all = omega (arith, ints)
coefficient-entry least n ((k, a) ∷ ts) j all = entry_by least n k a ts j all (coefficient-entry (k + 1) n ts j all.4) (nat_eq k j) refl

pub coefficient-none : (ts : Terms) (j : ℕ) (d : ℕ × ℤ) → ((k : ℕ) → k < length ts → (slice_index_or ts k d).0 ≡ j → ⊥) → coefficient j ts ≡ pos 0
coefficient-none [] j d h = refl
coefficient-none ((k, a) ∷ ts) j d h =
    let other : nat_eq k j ≡ false = differs (h 0 (omega arith)) in
    rw other (omega (arith, ints, coefficient-none ts j d (λ i p. h (suc i) (omega arith))))
  where
    differs : {k j : ℕ} → (k ≡ j → ⊥) → nat_eq k j ≡ false
    differs h = grind (arith, nat_tests, h)

-- without a column that comes before every term
without-earlier : (least n : ℕ) (ts : Terms) (j : ℕ) → AreTerms least n ts → j < least → without j ts ≡ ts
without-earlier least n [] j all h = refl
without-earlier least n ((k, a) ∷ ts) j all h =
    let other : nat_eq k j ≡ false = grind (arith, nat_tests, all.0) in
    rw other (ap (λ (us : Terms). (k, a) ∷ us) (without-earlier (k + 1) n ts j all.4 (omega (arith, all.0))))

-- the sum of f over the terms and their intervals
abbrev pub sum_of : (ℤ → Interval → ℤ) → Terms → Box → ℤ
sum_of f ts box = int_sum_by (λ t. f t.1 (interval_at box t.0)) ts

abbrev split_term : (ℤ → Interval → ℤ) → ℕ → ℕ → ℤ → Terms → Box → Bool → Type 0
split_term f j k a ts box b =
    f a (interval_at box k) +ℤ sum_of f ts box ≡ f (cond b a (pos 0) +ℤ coefficient j ts) (interval_at box j) +ℤ sum_of f (cond (not b) ((k, a) ∷ without j ts) (without j ts)) box

split_same : (f : ℤ → Interval → ℤ) (least n j k : ℕ) (a : ℤ) (ts : Terms) (box : Box) → AreTerms least n ts → k < least → k ≡ j → split_term f j k a ts box true
split_same f least n j k a ts box all h e =
    let none : coefficient j ts ≡ pos 0 = coefficient-earlier least n ts j all (omega arith) in
    let rest : without j ts ≡ ts = without-earlier least n ts j all (omega arith) in
    let whole : a +ℤ coefficient j ts ≡ a = omega (arith, ints, none) in
    rw (whole, rest, e) refl

split_other : (f : ℤ → Interval → ℤ) (j k : ℕ) (a : ℤ) (ts : Terms) (box : Box) → sum_of f ts box ≡ f (coefficient j ts) (interval_at box j) +ℤ sum_of f (without j ts) box → split_term f j k a ts box false
split_other f j k a ts box more =
    let whole : pos 0 +ℤ coefficient j ts ≡ coefficient j ts = omega (arith, ints) in
    rw whole (omega (arith, ints, more))

split_by : (f : ℤ → Interval → ℤ) (least n j k : ℕ) (a : ℤ) (ts : Terms) (box : Box) → AreTerms least n ts → k < least → sum_of f ts box ≡ f (coefficient j ts) (interval_at box j) +ℤ sum_of f (without j ts) box → (b : Bool) → nat_eq k j ≡ b → split_term f j k a ts box b
split_by f least n j k a ts box all h more true e = split_same f least n j k a ts box all h (grind (arith, nat_tests))
split_by f least n j k a ts box all h more false e = split_other f j k a ts box more

-- a row's sum is that of a column's term and that of the others
sum_of-split : (f : ℤ → Interval → ℤ) → ((i : Interval) → f (pos 0) i ≡ pos 0) → (least n j : ℕ) (ts : Terms) (box : Box) → AreTerms least n ts → sum_of f ts box ≡ f (coefficient j ts) (interval_at box j) +ℤ sum_of f (without j ts) box
sum_of-split f none least n j [] box all = rw (none (interval_at box j)) (omega (arith, ints))
sum_of-split f none least n j ((k, a) ∷ ts) box all =
    split_by f (k + 1) n j k a ts box all.4 (omega arith) (sum_of-split f none (k + 1) n j ts box all.4) (nat_eq k j) refl

least_product-zero : (i : Interval) → least_product (pos 0) i ≡ pos 0
least_product-zero i = omega (arith, ints, clamps)

greatest_product-zero : (i : Interval) → greatest_product (pos 0) i ≡ pos 0
greatest_product-zero i = omega (arith, ints, clamps)

pub least_sum-split : (n j : ℕ) (ts : Terms) (box : Box) → AreTerms 0 n ts → least_sum ts box ≡ least_product (coefficient j ts) (interval_at box j) +ℤ least_sum (without j ts) box
least_sum-split n j ts box all = sum_of-split least_product least_product-zero 0 n j ts box all

pub greatest_sum-split : (n j : ℕ) (ts : Terms) (box : Box) → AreTerms 0 n ts → greatest_sum ts box ≡ greatest_product (coefficient j ts) (interval_at box j) +ℤ greatest_sum (without j ts) box
greatest_sum-split n j ts box all = sum_of-split greatest_product greatest_product-zero 0 n j ts box all
