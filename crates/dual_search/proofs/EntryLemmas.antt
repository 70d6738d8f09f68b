-- The entries of multipliers of all rows.
use Rattle.std.specs.Prelude.{◌≡◌, ◌≢◌, ℕ, zero, suc, ◌+◌, ◌^◌, ◌<◌, ◌≤◌, ℤ, pos, ◌+ℤ◌, ◌-ℤ◌, ◌*ℤ◌, unsigned_abs, Bool, true, false, cond, List, [], ◌∷◌, length, slice_index_or, slice_set, nat_eq, Option, Some, None, is_some, unwrap_or, refl}
use Rattle.std.proofs.Common.{arith, ap, sym, subst, ◌∙◌}
use Rattle.std.proofs.lemmas.Bool.Decides.{nat_tests, Decides-int_eq}
use Rattle.std.proofs.lemmas.Bool.{false_from_ne_true, both_ways}
use Rattle.std.proofs.lemmas.Int.{ints}
use Rattle.int_model.specs.Integers.{int_at, int_eq, int_sum_by}
use Rattle.int_model.specs.Programs.{Terms}
use Rattle.int_model.specs.RowSums.{coefficient}
use Rattle.int_model.specs.declared.model.Ends.{Ends}
use Rattle.dual_bounds.specs.Vectors.{Entry, AreEntries, RowsBelow, side, counted, end_sum, share}
use Rattle.dual_bounds.specs.Counting.{counting}
use Rattle.dual_search.specs.Gains.{entries_of, end_product, entry_count}
use Rattle.dual_search.proofs.TermLemmas.{coefficient-own, coefficient-other}

-- ---- the number 0

pub is-zero : (z : ℤ) → int_eq z (pos 0) ≡ true → z ≡ pos 0
is-zero z e = (Decides-int_eq z (pos 0)).0 e

pub not-zero : (z : ℤ) → int_eq z (pos 0) ≡ false → z ≢ pos 0
not-zero z e same = absurd (both_ways (int_eq z (pos 0)) e ((Decides-int_eq z (pos 0)).1 same))

zero-test : (z : ℤ) → z ≡ pos 0 → int_eq z (pos 0) ≡ true
zero-test z e = (Decides-int_eq z (pos 0)).1 e

other-test : (z : ℤ) → z ≢ pos 0 → int_eq z (pos 0) ≡ false
other-test z ne = false_from_ne_true (int_eq z (pos 0)) (λ h. ne ((Decides-int_eq z (pos 0)).0 h))

-- ---- limits

pub are-entries : (least k : ℕ) (ys : List ℤ) → least ≤ k → ((i : ℕ) → unsigned_abs (int_at ys i) ≤ 2 ^ 40) → AreEntries least (entries_of k ys)
are-entries least k [] le small = tt
are-entries least k (y ∷ ys) le small =
    by_test (are-entries least (suc k) ys (omega arith) (λ i. small (suc i))) (are-entries (k + 1) (suc k) ys (omega arith) (λ i. small (suc i))) (int_eq y (pos 0)) refl
  where
    by_test : AreEntries least (entries_of (suc k) ys) → AreEntries (k + 1) (entries_of (suc k) ys) → (b : Bool) → int_eq y (pos 0) ≡ b → AreEntries least (cond b (entries_of (suc k) ys) ((k, y) ∷ entries_of (suc k) ys))
    by_test rest after true e = rest
    by_test rest after false e = (le, small 0, not-zero y e, after)

pub rows-below : (n k : ℕ) (ys : List ℤ) → k + length ys ≤ n → RowsBelow n (entries_of k ys)
rows-below n k [] le = tt
rows-below n k (y ∷ ys) le = by_test (rows-below n (suc k) ys (omega (arith, le))) (int_eq y (pos 0))
  where
    by_test : RowsBelow n (entries_of (suc k) ys) → (b : Bool) → RowsBelow n (cond b (entries_of (suc k) ys) ((k, y) ∷ entries_of (suc k) ys))
    by_test rest true = rest
    by_test rest false = (omega (arith, le), rest)

-- multipliers of all rows are within the limit where their entries are
pub multipliers-within : (least k : ℕ) (ys : List ℤ) (i : ℕ) → AreEntries least (entries_of k ys) → unsigned_abs (int_at ys i) ≤ 2 ^ 40
multipliers-within least k [] i all = omega arith
multipliers-within least k (y ∷ ys) zero all = by_test (int_eq y (pos 0)) refl all
  where
    by_test : (b : Bool) → int_eq y (pos 0) ≡ b → AreEntries least (cond b (entries_of (suc k) ys) ((k, y) ∷ entries_of (suc k) ys)) → unsigned_abs y ≤ 2 ^ 40
    by_test true e h = let nought : y ≡ pos 0 = is-zero y e in omega (arith, ints, nought)
    by_test false e h = h.1
multipliers-within least k (y ∷ ys) (suc i) all =
    by_test (λ n h. multipliers-within n (suc k) ys i h) (int_eq y (pos 0)) all
  where
    by_test : ((n : ℕ) → AreEntries n (entries_of (suc k) ys) → unsigned_abs (int_at ys i) ≤ 2 ^ 40) → (b : Bool) → AreEntries least (cond b (entries_of (suc k) ys) ((k, y) ∷ entries_of (suc k) ys)) → unsigned_abs (int_at ys i) ≤ 2 ^ 40
    by_test rest true h = rest least h
    by_test rest false h = rest (k + 1) h.3

-- ---- one multiplier changes

-- what an entry adds to the sum of f over those that count
abbrev pub part : List Ends → (Entry → ℤ) → Entry → ℤ
part ends f e = cond (is_some (side ends e)) (f e) (pos 0)

pub counted-step : (ends : List Ends) (f : Entry → ℤ) (e : Entry) (es : List Entry) → int_sum_by f (counted ends (e ∷ es)) ≡ part ends f e +ℤ int_sum_by f (counted ends es)
counted-step ends f e es = by_side (is_some (side ends e))
  where
    by_side : (b : Bool) → int_sum_by f (cond b (e ∷ counted ends es) (counted ends es)) ≡ cond b (f e) (pos 0) +ℤ int_sum_by f (counted ends es)
    by_side true = refl
    by_side false = omega (arith, ints)

sum-step : (ends : List Ends) (f : Entry → ℤ) → ((i : ℕ) → f (i, pos 0) ≡ pos 0) → (k : ℕ) (y : ℤ) (ys : List ℤ) → int_sum_by f (counted ends (entries_of k (y ∷ ys))) ≡ part ends f (k, y) +ℤ int_sum_by f (counted ends (entries_of (suc k) ys))
sum-step ends f none k y ys = by_test (int_eq y (pos 0)) refl
  where
    nothing : (b : Bool) → cond b (f (k, pos 0)) (pos 0) ≡ pos 0
    nothing true = none k
    nothing false = refl

    by_test : (b : Bool) → int_eq y (pos 0) ≡ b → int_sum_by f (counted ends (cond b (entries_of (suc k) ys) ((k, y) ∷ entries_of (suc k) ys))) ≡ part ends f (k, y) +ℤ int_sum_by f (counted ends (entries_of (suc k) ys))
    by_test true e =
        let nought : y ≡ pos 0 = is-zero y e in
        let no_part : part ends f (k, y) ≡ pos 0 = ap (λ (z : ℤ). part ends f (k, z)) nought ∙ nothing (is_some (side ends (k, pos 0))) in
        rw no_part (omega (arith, ints))
    by_test false e = counted-step ends f (k, y) (entries_of (suc k) ys)

sum-set : (ends : List Ends) (f : Entry → ℤ) → ((i : ℕ) → f (i, pos 0) ≡ pos 0) → (k : ℕ) (ys : List ℤ) (i : ℕ) (z : ℤ) → i < length ys → int_sum_by f (counted ends (entries_of k (slice_set ys i z))) +ℤ part ends f (k + i, int_at ys i) ≡ int_sum_by f (counted ends (entries_of k ys)) +ℤ part ends f (k + i, z)
sum-set ends f none k [] i z h = absurd (omega arith)
sum-set ends f none k (y ∷ ys) zero z h =
    let at : k + 0 ≡ k = omega arith in
    rw at (omega (arith, ints, sum-step ends f none k y ys, sum-step ends f none k z ys))
sum-set ends f none k (y ∷ ys) (suc i) z h =
    let at : k + suc i ≡ suc k + i = omega arith in
    rw at (omega (arith, ints, sum-step ends f none k y ys, sum-step ends f none k y (slice_set ys i z), sum-set ends f none (suc k) ys i z (omega arith)))

end-part : (ends : List Ends) (e : Entry) → part ends (λ e. e.1 *ℤ unwrap_or (side ends e) (pos 0)) e ≡ end_product ends e
end-part ends e = by_side (side ends e)
  where
    by_side : (o : Option ℤ) → cond (is_some o) (e.1 *ℤ unwrap_or o (pos 0)) (pos 0) ≡ e.1 *ℤ unwrap_or o (pos 0)
    by_side None = omega (arith, ints)
    by_side (Some w) = refl

-- the sum of the multipliers times the ends
pub end_sum-set : (ends : List Ends) (ys : List ℤ) (i : ℕ) (z : ℤ) → i < length ys → end_sum ends (counted ends (entries_of 0 (slice_set ys i z))) ≡ end_sum ends (counted ends (entries_of 0 ys)) +ℤ (end_product ends (i, z) -ℤ end_product ends (i, int_at ys i))
end_sum-set ends ys i z h =
    let at : 0 + i ≡ i = omega arith in
    let raw = sum-set ends (λ e. e.1 *ℤ unwrap_or (side ends e) (pos 0)) (λ j. omega (arith, ints)) 0 ys i z h in
    let moved = rw (at, end-part ends (i, int_at ys i), end-part ends (i, z)) at raw in
    omega (arith, ints, moved)

pub share-part : (ends : List Ends) (rows : List Terms) (j : ℕ) (e : Entry) → part ends (λ e. e.1 *ℤ coefficient j (slice_index_or rows e.0 [])) e ≡ counting ends e *ℤ coefficient j (slice_index_or rows e.0 [])
share-part ends rows j e = by_side (is_some (side ends e))
  where
    by_side : (b : Bool) → cond b (e.1 *ℤ coefficient j (slice_index_or rows e.0 [])) (pos 0) ≡ cond b e.1 (pos 0) *ℤ coefficient j (slice_index_or rows e.0 [])
    by_side true = refl
    by_side false = omega (arith, ints)

-- a column's share
pub share-set : (ends : List Ends) (rows : List Terms) (ys : List ℤ) (i : ℕ) (z : ℤ) (j : ℕ) → i < length ys → share rows (counted ends (entries_of 0 (slice_set ys i z))) j +ℤ counting ends (i, int_at ys i) *ℤ coefficient j (slice_index_or rows i []) ≡ share rows (counted ends (entries_of 0 ys)) j +ℤ counting ends (i, z) *ℤ coefficient j (slice_index_or rows i [])
share-set ends rows ys i z j h =
    let at : 0 + i ≡ i = omega arith in
    let raw = sum-set ends (λ e. e.1 *ℤ coefficient j (slice_index_or rows e.0 [])) (λ k. omega (arith, ints)) 0 ys i z h in
    rw (at, share-part ends rows j (i, int_at ys i), share-part ends rows j (i, z)) at raw

-- ---- how many entries there are

length-step : (k : ℕ) (y : ℤ) (ys : List ℤ) → length (entries_of k (y ∷ ys)) ≡ entry_count y + length (entries_of (suc k) ys)
length-step k y ys = by_test (int_eq y (pos 0))
  where
    by_test : (b : Bool) → length (cond b (entries_of (suc k) ys) ((k, y) ∷ entries_of (suc k) ys)) ≡ cond b 0 1 + length (entries_of (suc k) ys)
    by_test true = omega arith
    by_test false = omega arith

pub length-set : (k : ℕ) (ys : List ℤ) (i : ℕ) (z : ℤ) → i < length ys → length (entries_of k (slice_set ys i z)) + entry_count (int_at ys i) ≡ length (entries_of k ys) + entry_count z
length-set k [] i z h = absurd (omega arith)
length-set k (y ∷ ys) zero z h = omega (arith, length-step k y ys, length-step k z ys)
length-set k (y ∷ ys) (suc i) z h = omega (arith, length-step k y ys, length-step k y (slice_set ys i z), length-set (suc k) ys i z (omega arith))

-- ---- the entries are told by the multipliers of the rows

none-before : (i least : ℕ) (es : List Entry) → AreEntries least es → i < least → coefficient i es ≡ pos 0
none-before i least [] all h = refl
none-before i least (e ∷ es) all h =
    let other : e.0 ≢ i = omega (arith, all.0, h) in
    coefficient-other i e es other ∙ none-before i (e.0 + 1) es all.3 (omega (arith, all.0, h))

entry-same : (e : Entry) (k : ℕ) (y : ℤ) → e.0 ≡ k → e.1 ≡ y → e ≡ (k, y)
entry-same e k y p q = ap (λ (i : ℕ). let f : Entry = (i, e.1) in f) p ∙ ap (λ (z : ℤ). let f : Entry = (k, z) in f) q

pub zero-entries : (k : ℕ) (y : ℤ) (ys : List ℤ) → y ≡ pos 0 → entries_of k (y ∷ ys) ≡ entries_of (suc k) ys
zero-entries k y ys e =
    let t : int_eq y (pos 0) ≡ true = zero-test y e in
    rw t refl

pub other-entries : (k : ℕ) (y : ℤ) (ys : List ℤ) → y ≢ pos 0 → entries_of k (y ∷ ys) ≡ (k, y) ∷ entries_of (suc k) ys
other-entries k y ys e =
    let t : int_eq y (pos 0) ≡ false = other-test y e in
    rw t refl

pub entries-told : (k : ℕ) (ys : List ℤ) (es : List Entry) → AreEntries k es → RowsBelow (k + length ys) es → ((i : ℕ) → i < length ys → coefficient (k + i) es ≡ int_at ys i) → es ≡ entries_of k ys
entries-told k [] [] all below same = refl
entries-told k [] (e ∷ es) all below same = absurd (omega (arith, all.0, below.0))
entries-told k (y ∷ ys) [] all below same =
    let none : y ≡ pos 0 = sym (same 0 (omega arith)) in
    entries-told (suc k) ys [] tt tt (λ i h. same (suc i) (omega arith)) ∙ sym (zero-entries k y ys none)
entries-told k (y ∷ ys) (e ∷ es) all below same =
    by_row (λ rest h later. entries-told (suc k) ys es rest h later) (λ rest h later. entries-told (suc k) ys (e ∷ es) rest h later) (nat_eq e.0 k) refl
  where
    at : k + 0 ≡ k
    at = omega arith

    first : coefficient k (e ∷ es) ≡ y
    first = subst (λ (n : ℕ). coefficient n (e ∷ es) ≡ y) at (same 0 (omega arith))

    after : (i : ℕ) → k + suc i ≡ suc k + i
    after i = omega arith

    count : k + length (y ∷ ys) ≡ suc k + length ys
    count = omega arith

    Told : List Entry → Type 0
    Told l = AreEntries (suc k) l → RowsBelow (suc k + length ys) l → ((i : ℕ) → i < length ys → coefficient (suc k + i) l ≡ int_at ys i) → l ≡ entries_of (suc k) ys

    by_row : Told es → Told (e ∷ es) → (b : Bool) → nat_eq e.0 k ≡ b → e ∷ es ≡ entries_of k (y ∷ ys)
    by_row told told_all true q =
        let here : e.0 ≡ k = grind (arith, nat_tests, q) in
        let rest : AreEntries (suc k) es = subst (λ (n : ℕ). AreEntries n es) (omega (arith, here)) all.3 in
        let none : coefficient k es ≡ pos 0 = none-before k (suc k) es rest (omega arith) in
        let own : coefficient k (e ∷ es) ≡ e.1 +ℤ coefficient k es = coefficient-own k e es here in
        let is : e.1 ≡ y = omega (arith, ints, first, own, none) in
        let other : y ≢ pos 0 = λ z. all.2 (is ∙ z) in
        let later : (i : ℕ) → i < length ys → coefficient (suc k + i) es ≡ int_at ys i = λ i h.
        sym (coefficient-other (suc k + i) e es (omega (arith, here))) ∙ subst (λ (n : ℕ). coefficient n (e ∷ es) ≡ int_at ys i) (after i) (same (suc i) (omega (arith, h))) in
        let tail : es ≡ entries_of (suc k) ys = told rest (subst (λ (n : ℕ). RowsBelow n es) count below.1) later in
        ap (λ (l : List Entry). e ∷ l) tail ∙ ap (λ (f : Entry). f ∷ entries_of (suc k) ys) (entry-same e k y here is) ∙ sym (other-entries k y ys other)
    by_row told told_all false q =
        let later_row : k < e.0 = grind (arith, nat_tests, q, all.0) in
        let none : coefficient k (e ∷ es) ≡ pos 0 = coefficient-other k e es (omega (arith, later_row)) ∙ none-before k (e.0 + 1) es all.3 (omega (arith, later_row)) in
        let nought : y ≡ pos 0 = sym first ∙ none in
        told_all (omega (arith, later_row), all.1, all.2, all.3) (subst (λ (n : ℕ). RowsBelow n (e ∷ es)) count below) (λ i h. subst (λ (n : ℕ). coefficient n (e ∷ es) ≡ int_at ys i) (after i) (same (suc i) (omega (arith, h)))) ∙ sym (zero-entries k y ys nought)
