-- Within the limits sums and values are small.
use Rattle.std.specs.Prelude.{ℕ, zero, suc, ◌+◌, ◌-◌, ◌*◌, ◌^◌, ◌≤◌, ℤ, ◌≤ℤ◌, List, [], ◌∷◌, length, unsigned_abs, slice_index_or}
use Rattle.std.proofs.Common.{arith}
use Rattle.std.proofs.lemmas.Int.{ints, unsigned_abs-mul}
use Rattle.std.proofs.lemmas.Nat.{mul-le}
use Rattle.int_model.specs.Integers.{dot, int_at}
use Rattle.int_model.specs.Boxes.{Box, InBox, BoundsWithin}
use Rattle.int_model.specs.Programs.{Program, Terms, value, CostsWithin, KeepsLimits, AreTerms, AreRows, row_sum}
use Rattle.int_model.specs.Laws.{Fits, ValuesFit}

-- a number between two that keep a limit keeps it
between : (most : ℕ) (l h v : ℤ) → unsigned_abs l ≤ most → unsigned_abs h ≤ most → l ≤ℤ v → v ≤ℤ h → unsigned_abs v ≤ most
between most l h v a b c d = omega (arith, ints, c, d)

dot-within : (costs x : List ℤ) (box : Box) → CostsWithin (10 ^ 9) costs → BoundsWithin (10 ^ 6) box → InBox box x → unsigned_abs (dot costs x) ≤ length costs * 1000000000000000
dot-within [] x box c b h = omega arith
dot-within (a ∷ costs) [] box c b h = omega arith
dot-within (a ∷ costs) (v ∷ x) [] c b h = absurd h
dot-within (a ∷ costs) (v ∷ x) (i ∷ box) c b h =
    let small : unsigned_abs v ≤ 10 ^ 6 = between (10 ^ 6) i.low i.high v b.0 b.1 h.0 h.1 in
    let product : unsigned_abs a * unsigned_abs v ≤ 10 ^ 9 * 10 ^ 6 = mul-le (unsigned_abs a) (unsigned_abs v) (10 ^ 9) (10 ^ 6) c.0 small in
    omega (arith, ints, unsigned_abs-mul a v, product, dot-within costs x box c.1 b.2 h.2)

-- each number of a point within the bounds is small, also past the end
pub point-within : (box : Box) (x : List ℤ) (j : ℕ) → BoundsWithin (10 ^ 6) box → InBox box x → unsigned_abs (int_at x j) ≤ 10 ^ 6
point-within [] [] j b h = omega arith
point-within [] (v ∷ x) j b h = absurd h
point-within (i ∷ box) [] j b h = absurd h
point-within (i ∷ box) (v ∷ x) zero b h = between (10 ^ 6) i.low i.high v b.0 b.1 h.0 h.1
point-within (i ∷ box) (v ∷ x) (suc j) b h = point-within box x j b.2 h.2

-- terms that rise are at most as many as the columns
sum-within : (least n : ℕ) (terms : Terms) (x : List ℤ) → AreTerms least n terms → ((j : ℕ) → unsigned_abs (int_at x j) ≤ 10 ^ 6) → least ≤ n → unsigned_abs (row_sum terms x) ≤ (n - least) * 1000000000000000
sum-within least n [] x t small h = omega arith
sum-within least n (t ∷ terms) x a small h =
    let product : unsigned_abs t.1 * unsigned_abs (int_at x t.0) ≤ 10 ^ 9 * 10 ^ 6 = mul-le (unsigned_abs t.1) (unsigned_abs (int_at x t.0)) (10 ^ 9) (10 ^ 6) a.2 (small t.0) in
    let rest : unsigned_abs (row_sum terms x) ≤ (n - (t.0 + 1)) * 1000000000000000 = sum-within (t.0 + 1) n terms x a.4 small (omega (arith, a.1)) in
    omega (arith, ints, unsigned_abs-mul t.1 (int_at x t.0), product, rest, a.0, a.1)

row-within : (n : ℕ) (rows : List Terms) (i : ℕ) (x : List ℤ) → n ≤ 1000 → AreRows n rows → ((j : ℕ) → unsigned_abs (int_at x j) ≤ 10 ^ 6) → unsigned_abs (row_sum (slice_index_or rows i []) x) ≤ 10 ^ 18
row-within n [] i x few a small = omega arith
row-within n (row ∷ rows) zero x few a small =
    let sum : unsigned_abs (row_sum row x) ≤ (n - 0) * 1000000000000000 = sum-within 0 n row x a.0 small (omega arith) in omega (arith, few, sum)
row-within n (row ∷ rows) (suc i) x few a small = row-within n rows i x few a.1 small

pub limits-fit : (p : Program) → KeepsLimits p → (x : List ℤ) → InBox p.bounds x → Fits p x
limits-fit p k x within =
    let d : unsigned_abs (dot p.costs x) ≤ length p.costs * 1000000000000000 = dot-within p.costs x p.bounds k.costs k.bounds within in
    let most : length p.costs * 1000000000000000 ≤ 1000 * 1000000000000000 = mul-le (length p.costs) 1000000000000000 1000 1000000000000000 k.few (omega arith) in
    record {
      value = omega (arith, ints, d, most, k.constant);
      sums = λ i. row-within (length p.costs) p.rows i x k.few k.rows (λ j. point-within p.bounds x j k.bounds within);
    }

pub values-fit : (p : Program) → KeepsLimits p → ValuesFit p
values-fit p k x f = let small : unsigned_abs (value p x) ≤ 2 ^ 60 = (limits-fit p k x f.within).value in omega (arith, ints, small)
