-- Shares that serve all scenarios.
use Rattle.std.specs.Prelude.{◌≡◌, ℕ, zero, suc, ◌+◌, ◌<◌, ◌≤◌, ℤ, pos, negsuc, ◌+ℤ◌, ◌*ℤ◌, ◌-ℤ◌, ◌≤ℤ◌, ◌<ℤ◌, int_lt, unsigned_abs, List, [], ◌∷◌, length, slice_index_or, take, drop, Bool, true, false, is_some, Some, refl}
use Rattle.std.proofs.Common.{arith, ap, ◌∙◌}
use Rattle.std.proofs.lemmas.Int.{ints, clamps}
use Rattle.std.specs.Int.{int_max, int_min}
use Rattle.std.proofs.Math.Seq.{drop-cons}
use Rattle.int_model.specs.Boxes.{Box, interval_at}
use Rattle.int_model.specs.Programs.{CostsWithin}
use Rattle.int_model.specs.Models.{IntegerModel}
use Rattle.int_model.specs.RowSums.{least_product}
use Rattle.int_model.specs.declared.model.Ends.{Ends}
use Rattle.int_model.proofs.IntegerLaws.{mul-le-pos, mul-le-negsuc}
use Rattle.dual_bounds.specs.Vectors.{Entry, counted, least_reduced, rows_of, share, side}
use Rattle.dual_bounds.specs.Shared.{have_ends, least_shared}

-- where all entries have their ends, all count
pub all-counted : (ends : List Ends) (es : List Entry) → have_ends ends es ≡ true → counted ends es ≡ es
all-counted ends [] h = refl
all-counted ends (e ∷ es) h = by_side (all-counted ends es) (is_some (side ends e)) refl
  where
    by_side : (have_ends ends es ≡ true → counted ends es ≡ es) → (b : Bool) → is_some (side ends e) ≡ b → counted ends (e ∷ es) ≡ e ∷ es
    by_side rest true is = rw is (ap (λ (xs : List Entry). e ∷ xs) (rest (rw is at h)))
    by_side rest false is = absurd (let no : false ≡ true = rw is at h in cc)

-- one entry more that has its end
pub ends-more : (ends : List Ends) (es : List Entry) (k : ℕ) (d : Entry) (w : ℤ) → k < length es → have_ends ends (take k es) ≡ true → side ends (slice_index_or es k d) ≡ Some w → have_ends ends (take (suc k) es) ≡ true
ends-more ends [] k d w h e f = absurd (omega arith)
ends-more ends (x ∷ es) zero d w h e f = rw f refl
ends-more ends (x ∷ es) (suc k) d w h e f = by_side (λ g. ends-more ends es k d w (omega arith) g f) (is_some (side ends x)) refl
  where
    by_side : (have_ends ends (take k es) ≡ true → have_ends ends (take (suc k) es) ≡ true) → (b : Bool) → is_some (side ends x) ≡ b → have_ends ends (x ∷ take (suc k) es) ≡ true
    by_side rest true is = rw is (rest (rw is at e))
    by_side rest false is = absurd (let no : false ≡ true = rw is at e in cc)

-- sums with the shares are those of the vector
pub shared-is : (m : IntegerModel) (scale : ℕ) (es : List Entry) (xs : List ℤ) (j : ℕ) (costs : List ℤ) (box : Box) → ((i : ℕ) → i < length m.columns → slice_index_or xs i (pos 0) ≡ share (rows_of m) es i) → j + length costs ≤ length m.columns → least_shared scale xs j costs box ≡ least_reduced (rows_of m) scale es j costs box
shared-is m scale es xs j [] box are h = refl
shared-is m scale es xs j (cost ∷ costs) [] are h = refl
shared-is m scale es xs j (cost ∷ costs) (i ∷ box) are h =
    let rest : least_shared scale xs (suc j) costs box ≡ least_reduced (rows_of m) scale es (suc j) costs box = shared-is m scale es xs (suc j) costs box are (omega (arith, h)) in
    let here : slice_index_or xs j (pos 0) ≡ share (rows_of m) es j = are j (omega (arith, h)) in
    rw (here, rest) refl

-- one column more
pub shared-more : (scale : ℕ) (xs : List ℤ) (costs : List ℤ) (box : Box) (k : ℕ) (whole s r t : ℤ) → k < length costs → k < length box → whole ≡ s +ℤ least_shared scale xs k (drop k costs) (drop k box) → r ≡ least_product (pos scale *ℤ slice_index_or costs k (pos 0) -ℤ slice_index_or xs k (pos 0)) (interval_at box k) → t ≡ s +ℤ r → whole ≡ t +ℤ least_shared scale xs (suc k) (drop (suc k) costs) (drop (suc k) box)
shared-more scale xs costs box k whole s r t h g before is after =
    let cost : ℤ = slice_index_or costs k (pos 0) in
    let step : least_shared scale xs k (drop k costs) (drop k box) ≡ least_product (pos scale *ℤ cost -ℤ slice_index_or xs k (pos 0)) (interval_at box k) +ℤ least_shared scale xs (suc k) (drop (suc k) costs) (drop (suc k) box) = ap (λ (cs : List ℤ). least_shared scale xs k cs (drop k box)) (drop-cons costs k (pos 0) h) ∙ ap (λ (b : Box). least_shared scale xs k (cost ∷ drop (suc k) costs) b) (drop-cons box k (record { low = pos 0; high = pos 0 }) g) in
    omega (arith, ints, before, is, after, step)

-- a cost within the limit
pub cost-at : (most : ℕ) (costs : List ℤ) (k : ℕ) → CostsWithin most costs → k < length costs → unsigned_abs (slice_index_or costs k (pos 0)) ≤ most
cost-at most [] k all h = absurd (omega arith)
cost-at most (c ∷ costs) zero all h = all.0
cost-at most (c ∷ costs) (suc k) all h = cost-at most costs k all.1 (omega arith)

-- ---- the end at which a product is least

-- the greatest number makes a product with a negative factor least
pub best-of-negative : (r low high : ℤ) → r <ℤ pos 0 → r *ℤ int_max low high ≡ least_product r (record { low = low; high = high })
best-of-negative (pos n) low high h = absurd (omega (arith, ints, h))
best-of-negative (negsuc n) low high h = by_order (int_lt high low) refl
  where
    by_order : (b : Bool) → int_lt high low ≡ b → negsuc n *ℤ int_max low high ≡ least_product (negsuc n) (record { low = low; high = high })
    by_order true is =
        let order : high ≤ℤ low = grind (arith, ints, is) in
        let picked : int_max low high ≡ low = omega (arith, ints, clamps, order) in
        ap (λ (z : ℤ). negsuc n *ℤ z) picked ∙ omega (arith, ints, clamps, mul-le-negsuc n high low order)
    by_order false is =
        let order : low ≤ℤ high = grind (arith, ints, is) in
        let picked : int_max low high ≡ high = omega (arith, ints, clamps, order) in
        ap (λ (z : ℤ). negsuc n *ℤ z) picked ∙ omega (arith, ints, clamps, mul-le-negsuc n low high order)

-- and the least one that of any other factor
pub best-of-other : (r low high : ℤ) → pos 0 ≤ℤ r → r *ℤ int_min low high ≡ least_product r (record { low = low; high = high })
best-of-other (negsuc n) low high h = absurd (omega (arith, ints, h))
best-of-other (pos n) low high h = by_order (int_lt high low) refl
  where
    by_order : (b : Bool) → int_lt high low ≡ b → pos n *ℤ int_min low high ≡ least_product (pos n) (record { low = low; high = high })
    by_order true is =
        let order : high ≤ℤ low = grind (arith, ints, is) in
        let picked : int_min low high ≡ high = omega (arith, ints, clamps, order) in
        ap (λ (z : ℤ). pos n *ℤ z) picked ∙ omega (arith, ints, clamps, mul-le-pos n high low order)
    by_order false is =
        let order : low ≤ℤ high = grind (arith, ints, is) in
        let picked : int_min low high ≡ low = omega (arith, ints, clamps, order) in
        ap (λ (z : ℤ). pos n *ℤ z) picked ∙ omega (arith, ints, clamps, mul-le-pos n low high order)
