-- Sums of rows over boxes bound the sums at their points.
use Rattle.std.specs.Prelude.{◌≡◌, ℕ, zero, suc, ℤ, pos, negsuc, ◌+ℤ◌, ◌*ℤ◌, ◌≤ℤ◌, List, [], ◌∷◌, slice_index_or, Bool, true, false, not, cond, nat_eq, Option, Some, None, IfSome, refl}
use Rattle.std.proofs.Common.{arith, ap}
use Rattle.std.proofs.lemmas.Bool.Decides.{nat_tests}
use Rattle.std.proofs.lemmas.Int.{ints, clamps}
use Rattle.int_model.specs.Integers.{int_at}
use Rattle.int_model.specs.Boxes.{Interval, Box, InBox, interval_at}
use Rattle.int_model.specs.Programs.{Program, Terms, Feasible, MeetsRows, IsBetween, row_sum}
use Rattle.int_model.specs.RowSums.{least_product, greatest_product, least_sum, greatest_sum, coefficient, without, row_at, ends_at, is_above, is_below, row_misses}
use Rattle.int_model.specs.declared.model.Ends.{Ends}
use Rattle.int_model.proofs.BoxLaws.{IsIn}
use Rattle.int_model.proofs.IntegerLaws.{mul-le-pos, mul-le-negsuc, add-mul}

-- ---- a product over an interval

pub least_product-le : (a : ℤ) (i : Interval) (v : ℤ) → IsIn i v → least_product a i ≤ℤ (a *ℤ v)
least_product-le (pos n) i v h = omega (arith, ints, clamps, mul-le-pos n i.low v h.low)
least_product-le (negsuc n) i v h = omega (arith, ints, clamps, mul-le-negsuc n v i.high h.high)

pub le-greatest_product : (a : ℤ) (i : Interval) (v : ℤ) → IsIn i v → (a *ℤ v) ≤ℤ greatest_product a i
le-greatest_product (pos n) i v h = omega (arith, ints, clamps, mul-le-pos n v i.high h.high)
le-greatest_product (negsuc n) i v h = omega (arith, ints, clamps, mul-le-negsuc n i.low v h.low)

-- each column's number lies in its interval, also past the end, where both are 0
pub IsIn_at : (box : Box) (x : List ℤ) → InBox box x → (j : ℕ) → IsIn (interval_at box j) (int_at x j)
IsIn_at [] [] h j = record { low = omega (arith, ints); high = omega (arith, ints) }
IsIn_at [] (v ∷ xs) h j = absurd h
IsIn_at (i ∷ box) [] h j = absurd h
IsIn_at (i ∷ box) (v ∷ xs) h zero = record { low = h.0; high = h.1 }
IsIn_at (i ∷ box) (v ∷ xs) h (suc j) = IsIn_at box xs h.2 j

-- a row's sum lies between its least and its greatest over the box
pub least_sum-le : (terms : Terms) (box : Box) (x : List ℤ) → InBox box x → least_sum terms box ≤ℤ row_sum terms x
least_sum-le [] box x h = omega (arith, ints)
least_sum-le ((j, a) ∷ terms) box x h =
    omega (arith, ints, least_product-le a (interval_at box j) (int_at x j) (IsIn_at box x h j), least_sum-le terms box x h)

pub le-greatest_sum : (terms : Terms) (box : Box) (x : List ℤ) → InBox box x → row_sum terms x ≤ℤ greatest_sum terms box
le-greatest_sum [] box x h = omega (arith, ints)
le-greatest_sum ((j, a) ∷ terms) box x h =
    omega (arith, ints, le-greatest_product a (interval_at box j) (int_at x j) (IsIn_at box x h j), le-greatest_sum terms box x h)

with_term : (j k : ℕ) (a : ℤ) (terms : Terms) (x : List ℤ) → row_sum terms x ≡ coefficient j terms *ℤ int_at x j +ℤ row_sum (without j terms) x → (b : Bool) → nat_eq k j ≡ b → a *ℤ int_at x k +ℤ row_sum terms x ≡ (cond b a (pos 0) +ℤ coefficient j terms) *ℤ int_at x j +ℤ row_sum (cond (not b) ((k, a) ∷ without j terms) (without j terms)) x
with_term j k a terms x h true e =
    let same : a *ℤ int_at x k ≡ a *ℤ int_at x j = ap (λ (n : ℕ). a *ℤ int_at x n) (grind (arith, nat_tests))
    in omega (arith, ints, same, add-mul a (coefficient j terms) (int_at x j))
with_term j k a terms x h false e = omega (arith, ints, add-mul (pos 0) (coefficient j terms) (int_at x j))

-- a row's sum is a column's part and that of the others
pub row_sum-without : (j : ℕ) (terms : Terms) (x : List ℤ) → row_sum terms x ≡ coefficient j terms *ℤ int_at x j +ℤ row_sum (without j terms) x
row_sum-without j [] x = omega (arith, ints)
row_sum-without j ((k, a) ∷ terms) x = with_term j k a terms x (row_sum-without j terms x) (nat_eq k j) refl

pub IsBetween_at : (rows : List Terms) (ends : List Ends) (x : List ℤ) → MeetsRows rows ends x → (i : ℕ) → IsBetween (slice_index_or ends i (record { lower = None; upper = None })) (row_sum (slice_index_or rows i []) x)
IsBetween_at [] [] x h i = (tt, tt)
IsBetween_at [] (e ∷ ends) x h i = absurd h
IsBetween_at (row ∷ rows) [] x h i = absurd h
IsBetween_at (row ∷ rows) (e ∷ ends) x h zero = h.0
IsBetween_at (row ∷ rows) (e ∷ ends) x h (suc i) = IsBetween_at rows ends x h.1 i

-- no feasible point lies in a box that a row misses
not_above : (e : Option ℤ) (z y : ℤ) → z ≤ℤ y → IfSome e (λ u. y ≤ℤ u) → is_above e z ≡ false
not_above None z y h p = refl
not_above (Some u) z y h p = grind (arith, ints, h, p)

not_below : (e : Option ℤ) (z y : ℤ) → y ≤ℤ z → IfSome e (λ w. w ≤ℤ y) → is_below e z ≡ false
not_below None z y h p = refl
not_below (Some w) z y h p = grind (arith, ints, h, p)

pub row_misses-none : (s : Program) (i : ℕ) (box : Box) (x : List ℤ) → Feasible s x → InBox box x → row_misses s i box ≡ false
row_misses-none s i box x f h =
    let p : IsBetween (ends_at s i) (row_sum (row_at s i) x) = IsBetween_at s.rows s.ends x f.rows i
    in rw (not_above (ends_at s i).upper (least_sum (row_at s i) box) (row_sum (row_at s i) x) (least_sum-le (row_at s i) box x h) p.1, not_below (ends_at s i).lower (greatest_sum (row_at s i) box) (row_sum (row_at s i) x) (le-greatest_sum (row_at s i) box x h) p.0) refl
