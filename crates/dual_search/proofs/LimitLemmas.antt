-- The limits of reduced costs.
use Rattle.std.specs.Prelude.{◌≡◌, ◌≢◌, ℕ, zero, suc, ◌+◌, ◌*◌, ◌^◌, ◌<◌, ◌≤◌, ℤ, pos, ◌+ℤ◌, ◌*ℤ◌, unsigned_abs, Bool, true, false, cond, List, [], ◌∷◌, length, slice_index_or, nat_eq, nat_lt, is_some, refl}
use Rattle.std.proofs.Common.{arith, ◌∙◌}
use Rattle.std.proofs.lemmas.Bool.Decides.{nat_tests}
use Rattle.std.proofs.lemmas.Int.{ints}
use Rattle.std.proofs.lemmas.List.{get_or_past}
use Rattle.int_model.specs.Integers.{int_at, int_sum_by}
use Rattle.int_model.specs.Programs.{Program, Terms, AreTerms, AreRows, KeepsLimits}
use Rattle.int_model.specs.RowSums.{coefficient}
use Rattle.int_model.specs.declared.model.Ends.{Ends}
use Rattle.dual_bounds.specs.Vectors.{Entry, AreEntries, side, counted, share}
use Rattle.dual_bounds.proofs.ProductLemmas.{product-limit}
use Rattle.dual_search.specs.Gains.{entries_of, AreReduced, AreSmall}
use Rattle.dual_search.proofs.TermLemmas.{coefficient-own, coefficient-other, cost-within}
use Rattle.dual_search.proofs.EntryLemmas.{part, counted-step, are-entries}

none-before : (j least n : ℕ) (ts : Terms) → AreTerms least n ts → j < least → coefficient j ts ≡ pos 0
none-before j least n [] all h = refl
none-before j least n (t ∷ ts) all h =
    let other : t.0 ≢ j = omega (arith, all.0, h) in
    coefficient-other j t ts other ∙ none-before j (t.0 + 1) n ts all.4 (omega (arith, all.0, h))

-- columns rise, so a row has at most one term of a column
pub coefficient-limit : (j least n : ℕ) (ts : Terms) → AreTerms least n ts → unsigned_abs (coefficient j ts) ≤ 10 ^ 9
coefficient-limit j least n [] all = omega arith
coefficient-limit j least n (t ∷ ts) all = by_column (coefficient-limit j (t.0 + 1) n ts all.4) (nat_eq t.0 j) refl
  where
    by_column : unsigned_abs (coefficient j ts) ≤ 10 ^ 9 → (b : Bool) → nat_eq t.0 j ≡ b → unsigned_abs (coefficient j (t ∷ ts)) ≤ 10 ^ 9
    by_column rest true e =
        let here : t.0 ≡ j = grind (arith, nat_tests, e) in
        let none : coefficient j ts ≡ pos 0 = none-before j (t.0 + 1) n ts all.4 (omega (arith, here)) in
        let own : coefficient j (t ∷ ts) ≡ t.1 +ℤ coefficient j ts = coefficient-own j t ts here in
        omega (arith, ints, own, none, all.2)
    by_column rest false e =
        let other : t.0 ≢ j = grind (arith, nat_tests, e) in
        rw (coefficient-other j t ts other) rest

pub row-terms : (n : ℕ) (rows : List Terms) (i : ℕ) → AreRows n rows → AreTerms 0 n (slice_index_or rows i [])
row-terms n [] i all = tt
row-terms n (row ∷ rows) zero all = all.0
row-terms n (row ∷ rows) (suc i) all = row-terms n rows i all.1

part-limit : (ends : List Ends) (e : Entry) (a : ℤ) → unsigned_abs e.1 ≤ 2 ^ 40 → unsigned_abs a ≤ 10 ^ 9 → unsigned_abs (cond (is_some (side ends e)) (e.1 *ℤ a) (pos 0)) ≤ 2 ^ 40 * 10 ^ 9
part-limit ends e a h g = by_side (is_some (side ends e))
  where
    by_side : (b : Bool) → unsigned_abs (cond b (e.1 *ℤ a) (pos 0)) ≤ 2 ^ 40 * 10 ^ 9
    by_side true = product-limit e.1 a (2 ^ 40) (10 ^ 9) h g
    by_side false = omega arith

share-limit : (n : ℕ) (rows : List Terms) (ends : List Ends) (j least : ℕ) (es : List Entry) → AreRows n rows → AreEntries least es → unsigned_abs (share rows (counted ends es) j) ≤ length es * (2 ^ 40 * 10 ^ 9)
share-limit n rows ends j least [] all entries = omega arith
share-limit n rows ends j least (e ∷ es) all entries =
    let f : Entry → ℤ = λ (x : Entry). x.1 *ℤ coefficient j (slice_index_or rows x.0 []) in
    let step : int_sum_by f (counted ends (e ∷ es)) ≡ part ends f e +ℤ int_sum_by f (counted ends es) = counted-step ends f e es in
    let own : unsigned_abs (part ends f e) ≤ 2 ^ 40 * 10 ^ 9 = part-limit ends e (coefficient j (slice_index_or rows e.0 [])) entries.1 (coefficient-limit j 0 n (slice_index_or rows e.0 []) (row-terms n rows e.0 all)) in
    let rest : unsigned_abs (share rows (counted ends es) j) ≤ length es * (2 ^ 40 * 10 ^ 9) = share-limit n rows ends j (e.0 + 1) es all entries.3 in
    omega (arith, ints, step, own, rest)

-- reduced costs keep a limit
pub reduced-small : (p : Program) (scale : ℕ) (ys reduced : List ℤ) → KeepsLimits p → scale ≤ 2 ^ 20 → ((i : ℕ) → unsigned_abs (int_at ys i) ≤ 2 ^ 40) → length (entries_of 0 ys) ≤ 128 → AreReduced p scale ys reduced → AreSmall reduced
reduced-small p scale ys reduced keeps h within few all j = by_place (nat_lt j (length p.costs)) refl
  where
    inside : j < length p.costs → unsigned_abs (int_at reduced j) ≤ 2 ^ 80
    inside g =
        let cost : unsigned_abs (int_at p.costs j) ≤ 10 ^ 9 = cost-within (10 ^ 9) p.costs j keeps.costs g in
        let scaled : unsigned_abs (pos scale *ℤ int_at p.costs j) ≤ 2 ^ 20 * 10 ^ 9 = product-limit (pos scale) (int_at p.costs j) (2 ^ 20) (10 ^ 9) h cost in
        let shared : unsigned_abs (share p.rows (counted p.ends (entries_of 0 ys)) j) ≤ length (entries_of 0 ys) * (2 ^ 40 * 10 ^ 9) = share-limit (length p.costs) p.rows p.ends j 0 (entries_of 0 ys) keeps.rows (are-entries 0 0 ys (omega arith) within) in
        omega (arith, ints, all.values j g, scaled, shared, few)

    by_place : (b : Bool) → nat_lt j (length p.costs) ≡ b → unsigned_abs (int_at reduced j) ≤ 2 ^ 80
    by_place true e = inside (grind (arith, nat_tests, e))
    by_place false e =
        let past : length reduced ≤ j = grind (arith, nat_tests, e, all.count) in
        let none : int_at reduced j ≡ pos 0 = get_or_past reduced j (pos 0) past in
        omega (arith, ints, none)
