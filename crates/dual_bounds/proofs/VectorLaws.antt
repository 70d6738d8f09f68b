-- The sum and the bound of a vector are at most those of each feasible point of the box.
use Rattle.std.specs.Prelude.{◌≡◌, ℕ, zero, suc, ◌+◌, ◌*◌, ◌^◌, ◌<◌, ℤ, pos, negsuc, ◌+ℤ◌, ◌*ℤ◌, neg_ℤ, ◌≤ℤ◌, ◌<ℤ◌, List, [], ◌∷◌, length, slice_index_or, Bool, true, false, cond, nat_eq, int_lt, Option, Some, None, is_some, IfSome, refl}
use Rattle.std.proofs.Common.{arith, ap, sym, ◌∙◌, subst}
use Rattle.std.proofs.lemmas.Bool.Decides.{nat_tests}
use Rattle.std.proofs.lemmas.Int.{ints, clamps}
use borrow.Author.Differences.{up, down, neg_is, product_is}
use Rattle.int_model.specs.Integers.{int_at, int_sum_by, dot, ceil_div}
use Rattle.int_model.specs.Boxes.{Box, InBox}
use Rattle.int_model.specs.Programs.{Program, Terms, IsBetween, row_sum, value, ColumnsBelow, AllColumnsBelow, KeepsLimits}
use Rattle.int_model.specs.RowSums.{coefficient}
use Rattle.int_model.specs.declared.model.Ends.{Ends}
use Rattle.int_model.proofs.BoxLaws.{length-InBox}
use Rattle.int_model.proofs.IntegerLaws.{mul-le-pos, mul-le-negsuc, mul-add, add-mul, neg-mul, div-above}
use Rattle.int_model.proofs.RowSumLaws.{least_product-le, IsBetween_at}
use Rattle.int_model.proofs.LimitLaws.{values-fit}
use Rattle.dual_bounds.specs.Vectors.{Entry, Multipliers, side, counted, end_sum, reduced_cost, least_reduced, within_range, program_sum, program_bound}
use Rattle.dual_bounds.specs.Laws.{IsFeasibleIn}

pub mul_assoc : (a b c : ℤ) → (a *ℤ b) *ℤ c ≡ a *ℤ (b *ℤ c)
mul_assoc a b c = omega (
  arith,
  ints,
  ap (λ (n : ℕ). n * up c) (product_is a b).0,
  ap (λ (n : ℕ). n * down c) (product_is a b).0,
  ap (λ (n : ℕ). n * up c) (product_is a b).1,
  ap (λ (n : ℕ). n * down c) (product_is a b).1,
  ap (λ (n : ℕ). up a * n) (product_is b c).0,
  ap (λ (n : ℕ). down a * n) (product_is b c).0,
  ap (λ (n : ℕ). up a * n) (product_is b c).1,
  ap (λ (n : ℕ). down a * n) (product_is b c).1,
)

-- ---- the reduced costs, as a linear function of the point

-- over the columns from j on, the sum of the reduced cost times the point's number
abbrev reduced_sum : List Terms → ℕ → List Entry → ℕ → List ℤ → List ℤ → ℤ
reduced_sum rows scale es j (c ∷ costs) (v ∷ xs) =
    reduced_cost rows scale es j c *ℤ v +ℤ reduced_sum rows scale es (suc j) costs xs
reduced_sum rows scale es j (c ∷ costs) [] = pos 0
reduced_sum rows scale es j [] xs = pos 0

least_reduced-le : (rows : List Terms) (scale : ℕ) (es : List Entry) (j : ℕ) (costs : List ℤ) (box : Box) (xs : List ℤ) → InBox box xs → least_reduced rows scale es j costs box ≤ℤ reduced_sum rows scale es j costs xs
least_reduced-le rows scale es j [] box xs h = omega (arith, ints)
least_reduced-le rows scale es j (c ∷ costs) [] [] h = omega (arith, ints)
least_reduced-le rows scale es j (c ∷ costs) [] (v ∷ xs) h = absurd h
least_reduced-le rows scale es j (c ∷ costs) (i ∷ box) [] h = absurd h
least_reduced-le rows scale es j (c ∷ costs) (i ∷ box) (v ∷ xs) h =
    omega (arith, ints, least_product-le (reduced_cost rows scale es j c) i v (record { low = h.0; high = h.1 }), least_reduced-le rows scale es (suc j) costs box xs h.2)

-- over the columns from j on, the sum of the row's coefficient times the point's number
abbrev row_part : ℕ → Terms → List ℤ → ℤ
row_part j row [] = pos 0
row_part j row (v ∷ xs) = coefficient j row *ℤ v +ℤ row_part (suc j) row xs

abbrev shares : List Terms → List Entry → (Terms → ℤ) → ℤ
shares rows es f = int_sum_by (λ e. e.1 *ℤ f (slice_index_or rows e.0 [])) es

shares-step : (rows : List Terms) (es : List Entry) (j : ℕ) (v : ℤ) (xs : List ℤ) → shares rows es (λ r. row_part j r (v ∷ xs)) ≡ shares rows es (coefficient j) *ℤ v +ℤ shares rows es (λ r. row_part (suc j) r xs)
shares-step rows [] j v xs = omega (arith, ints)
shares-step rows ((i, y) ∷ es) j v xs =
    let c : ℤ = coefficient j (slice_index_or rows i []) in
    let p : ℤ = row_part (suc j) (slice_index_or rows i []) xs in
    omega (arith, ints, shares-step rows es j v xs, mul-add y (c *ℤ v) p, mul_assoc y c v, add-mul (y *ℤ c) (shares rows es (coefficient j)) v)

shares-none : (rows : List Terms) (es : List Entry) (j : ℕ) → shares rows es (λ r. row_part j r []) ≡ pos 0
shares-none rows [] j = refl
shares-none rows ((i, y) ∷ es) j = omega (arith, ints, shares-none rows es j)

reduced_sum-is : (rows : List Terms) (scale : ℕ) (es : List Entry) (j : ℕ) (costs xs : List ℤ) → length costs ≡ length xs → reduced_sum rows scale es j costs xs +ℤ shares rows es (λ r. row_part j r xs) ≡ pos scale *ℤ dot costs xs
reduced_sum-is rows scale es j [] [] e = omega (arith, ints, shares-none rows es j)
reduced_sum-is rows scale es j [] (v ∷ xs) e = absurd (omega arith)
reduced_sum-is rows scale es j (c ∷ costs) [] e = absurd (omega arith)
reduced_sum-is rows scale es j (c ∷ costs) (v ∷ xs) e =
    let k : ℤ = shares rows es (coefficient j) in
    omega (arith, ints, reduced_sum-is rows scale es (suc j) costs xs (omega arith), shares-step rows es j v xs, add-mul (pos scale *ℤ c) (neg_ℤ k) v, neg-mul k v, mul_assoc (pos scale) c v, mul-add (pos scale) (c *ℤ v) (dot costs xs))

-- ---- a row's sum, by columns

row_part-none : (j : ℕ) (xs : List ℤ) → row_part j [] xs ≡ pos 0
row_part-none j [] = refl
row_part-none j (v ∷ xs) = omega (arith, ints, row_part-none (suc j) xs)

row_part-cons : (j : ℕ) (t : ℕ × ℤ) (row : Terms) (xs : List ℤ) → row_part j (t ∷ row) xs ≡ row_part j (t ∷ []) xs +ℤ row_part j row xs
row_part-cons j t row [] = refl
row_part-cons j t row (v ∷ xs) =
    let a : ℤ = cond (nat_eq t.0 j) t.1 (pos 0) in
    omega (arith, ints, row_part-cons (suc j) t row xs, add-mul a (coefficient j row) v, add-mul a (pos 0) v)

-- one term before the columns from j on, and one among them
one_past : (j k : ℕ) (a : ℤ) (xs : List ℤ) → k < j → row_part j ((k, a) ∷ []) xs ≡ pos 0
one_past j k a [] h = refl
one_past j k a (v ∷ xs) h =
    let e : nat_eq k j ≡ false = grind (arith, nat_tests) in
    rw e (omega (arith, ints, one_past (suc j) k a xs (omega arith)))

one_at : (j i : ℕ) (a : ℤ) (xs : List ℤ) → i < length xs → row_part j ((j + i, a) ∷ []) xs ≡ a *ℤ int_at xs i
one_at j i a [] h = absurd (omega arith)
one_at j zero a (v ∷ xs) h =
    let e : nat_eq (j + 0) j ≡ true = grind (arith, nat_tests) in
    rw e (omega (arith, ints, add-mul a (pos 0) v, one_past (suc j) (j + 0) a xs (omega arith)))
one_at j (suc i) a (v ∷ xs) h =
    let e : nat_eq (j + suc i) j ≡ false = grind (arith, nat_tests) in
    let n : j + suc i ≡ suc j + i = omega arith in
    rw e (rw n (omega (arith, ints, one_at (suc j) i a xs (omega arith))))

row_part-is : (row : Terms) (xs : List ℤ) → ColumnsBelow (length xs) row → row_part 0 row xs ≡ row_sum row xs
row_part-is [] xs h = row_part-none 0 xs
row_part-is ((k, a) ∷ row) xs h =
    let z : 0 + k ≡ k = omega arith in
    let o : row_part 0 ((0 + k, a) ∷ []) xs ≡ a *ℤ int_at xs k = one_at 0 k a xs h.0 in
    let p : row_part 0 ((k, a) ∷ []) xs ≡ a *ℤ int_at xs k = rw z at o in
    omega (arith, ints, row_part-cons 0 (k, a) row xs, p, row_part-is row xs h.1)

-- ---- the ends

ColumnsBelow_at : (n : ℕ) (rows : List Terms) → AllColumnsBelow n rows → (i : ℕ) → ColumnsBelow n (slice_index_or rows i [])
ColumnsBelow_at n [] h i = tt
ColumnsBelow_at n (row ∷ rows) h zero = h.0
ColumnsBelow_at n (row ∷ rows) h (suc i) = ColumnsBelow_at n rows h.1 i

-- a multiplier times its end is at most the multiplier times the row's sum
by_sign : (y : ℤ) (b : Bool) → int_lt (pos 0) y ≡ b → (lower upper : Option ℤ) (r : ℤ) → IfSome lower (λ w. w ≤ℤ r) → IfSome upper (λ u. r ≤ℤ u) → IfSome (cond b lower upper) (λ w. (y *ℤ w) ≤ℤ (y *ℤ r))
by_sign (pos n) true p None upper r k l = tt
by_sign (pos n) true p (Some w) upper r k l = mul-le-pos n w r k
by_sign (pos zero) false p lower None r k l = tt
by_sign (pos zero) false p lower (Some u) r k l = omega (arith, ints)
by_sign (pos (suc n)) false p lower upper r k l = absurd (grind (arith, ints, p))
by_sign (negsuc n) true p lower upper r k l = absurd (grind (arith, ints, p))
by_sign (negsuc n) false p lower None r k l = tt
by_sign (negsuc n) false p lower (Some u) r k l = mul-le-negsuc n r u l

ends-le : (rows : List Terms) (ends : List Ends) (x : List ℤ) → ((i : ℕ) → IsBetween (slice_index_or ends i (record { lower = None; upper = None })) (row_sum (slice_index_or rows i []) x)) → (es : List Entry) → end_sum ends (counted ends es) ≤ℤ shares rows (counted ends es) (λ r. row_sum r x)
ends-le rows ends x h [] = omega (arith, ints)
ends-le rows ends x h ((i, y) ∷ es) =
    let e : Ends = slice_index_or ends i (record { lower = None; upper = None }) in
    add_one (side ends (i, y)) refl (by_sign y (int_lt (pos 0) y) refl e.lower e.upper (row_sum (slice_index_or rows i []) x) (h i).0 (h i).1) (ends-le rows ends x h es)
  where
    add_one : (o : Option ℤ) → side ends (i, y) ≡ o → IfSome o (λ w. (y *ℤ w) ≤ℤ (y *ℤ row_sum (slice_index_or rows i []) x))
        → end_sum ends (counted ends es) ≤ℤ shares rows (counted ends es) (λ r. row_sum r x)
        → end_sum ends (cond (is_some o) ((i, y) ∷ counted ends es) (counted ends es)) ≤ℤ shares rows (cond (is_some o) ((i, y) ∷ counted ends es) (counted ends es)) (λ r. row_sum r x)
    add_one None e p q = q
    add_one (Some w) e p q = rw e (omega (arith, ints, p, q))

shares-same : (rows : List Terms) (es : List Entry) (x : List ℤ) → AllColumnsBelow (length x) rows → shares rows es (λ r. row_part 0 r x) ≡ shares rows es (λ r. row_sum r x)
shares-same rows [] x h = refl
shares-same rows ((i, y) ∷ es) x h =
    let e : row_part 0 (slice_index_or rows i []) x ≡ row_sum (slice_index_or rows i []) x = row_part-is (slice_index_or rows i []) x (ColumnsBelow_at (length x) rows h i) in
    let p : y *ℤ row_part 0 (slice_index_or rows i []) x ≡ y *ℤ row_sum (slice_index_or rows i []) x = ap (λ z. y *ℤ z) e in
    omega (arith, ints, p, shares-same rows es x h)

-- the sum is at most the scale times the cost of each feasible point of the box
pub sum-below : (columns rows : ℕ) (p : Program) (v : Multipliers) (box : Box) (x : List ℤ) → IsFeasibleIn columns rows p box x → program_sum p v box ≤ℤ (pos v.scale *ℤ dot p.costs x)
sum-below columns rows p v box x f =
    let es : List Entry = counted p.ends v.entries in
    let n : columns ≡ length x = sym f.shape.bounds ∙ length-InBox p.bounds x f.feasible.within in
    let below : AllColumnsBelow (length x) p.rows = subst (λ (k : ℕ). AllColumnsBelow k p.rows) n f.shape.terms in
    let parts : end_sum p.ends es ≤ℤ shares p.rows es (λ r. row_sum r x) = ends-le p.rows p.ends x (IsBetween_at p.rows p.ends x f.feasible.rows) v.entries in
    omega (arith, ints, parts, shares-same p.rows es x below, reduced_sum-is p.rows v.scale es 0 p.costs x (f.shape.costs ∙ n), least_reduced-le p.rows v.scale es 0 p.costs box x f.inside)

-- the quotient rounded up
pub ceil_div-le : (n : ℕ) (z w : ℤ) → z ≤ℤ (pos (suc n) *ℤ w) → ceil_div z (pos (suc n)) ≤ℤ w
ceil_div-le n z w h =
    let t : (pos (suc n) *ℤ neg_ℤ w) ≤ℤ neg_ℤ z = omega (arith, ints, ap (λ (k : ℕ). suc n * k) (neg_is w).0, ap (λ (k : ℕ). suc n * k) (neg_is w).1) in
    omega (arith, ints, div-above n (neg_ℤ z) (neg_ℤ w) t)

within_range-le : (z v : ℤ) → z ≤ℤ v → neg_ℤ (pos (2 ^ 60)) ≤ℤ v → within_range z ≤ℤ v
within_range-le z v h k = omega (arith, ints, clamps)

by_scale : (n : ℕ) (z cost constant : ℤ) → 0 < n → z ≤ℤ (pos n *ℤ cost) → neg_ℤ (pos (2 ^ 60)) ≤ℤ (cost +ℤ constant) → within_range (ceil_div z (pos n) +ℤ constant) ≤ℤ (cost +ℤ constant)
by_scale zero z cost constant q t k = absurd (omega arith)
by_scale (suc n) z cost constant q t k =
    within_range-le (ceil_div z (pos (suc n)) +ℤ constant) (cost +ℤ constant) (omega (arith, ints, ceil_div-le n z cost t)) k

-- the bound is at most the value of each feasible point of the box
pub bound-safe : (columns rows : ℕ) (p : Program) (v : Multipliers) (box : Box) (x : List ℤ) → KeepsLimits p → 0 < v.scale → IsFeasibleIn columns rows p box x → program_bound p v box ≤ℤ value p x
bound-safe columns rows p v box x k q f =
    by_scale v.scale (program_sum p v box) (dot p.costs x) p.constant q (sum-below columns rows p v box x f) (values-fit p k x f.feasible)

not-positive : (n : ℕ) (z cost : ℤ) → n ≡ 0 → pos 0 <ℤ z → z ≤ℤ (pos n *ℤ cost) → ⊥
not-positive zero z cost e p h = absurd (omega (arith, ints, p, h))
not-positive (suc n) z cost e p h = absurd (omega (arith, e))

-- with the scale 0 no point is feasible where the sum is above 0
pub positive-none : (columns rows : ℕ) (p : Program) (v : Multipliers) (box : Box) (x : List ℤ) → v.scale ≡ 0 → pos 0 <ℤ program_sum p v box → IsFeasibleIn columns rows p box x → ⊥
positive-none columns rows p v box x e q f =
    not-positive v.scale (program_sum p v box) (dot p.costs x) e q (sum-below columns rows p v box x f)
