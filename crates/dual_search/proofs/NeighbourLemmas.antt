-- No neighbour of a top has a greater total.
use Rattle.std.specs.Prelude.{◌≡◌, ◌≢◌, ◌⊎◌, ℕ, zero, suc, ◌+◌, ◌<◌, ◌≤◌, ℤ, pos, negsuc, ◌+ℤ◌, ◌-ℤ◌, ◌≤ℤ◌, ◌<ℤ◌, unsigned_abs, Bool, true, false, cond, List, [], ◌∷◌, length, slice_set, nat_eq, nat_lt, refl}
use Rattle.std.proofs.Common.{arith, ap, sym, subst, ◌∙◌, inl, inr}
use Rattle.std.proofs.lemmas.Bool.Decides.{nat_tests}
use Rattle.std.proofs.lemmas.Int.{ints}
use Rattle.std.proofs.lemmas.List.{get_or-set_same, get_or-set_other, length-set}
use Rattle.int_model.specs.Integers.{int_at, int_eq}
use Rattle.int_model.specs.Boxes.{Box}
use Rattle.int_model.specs.RowSums.{coefficient}
use Rattle.scenario_changes.specs.Problems.{Scenarios, problem}
use Rattle.dual_bounds.specs.Vectors.{Entry, Multipliers, RowsBelow, KeepsLimits}
use Rattle.dual_search.specs.Totals.{IsAscended, IsNeighbour, multiplier, total}
use Rattle.dual_search.specs.Gains.{entries_of, vector_of}
use Rattle.dual_search.specs.Ascents.{HasAscended, IsCarried, IsSameSearch, IsTop, IsTopAt, total_of, unit, vector_at, with_multiplier}
use Rattle.dual_search.specs.declared.ascent.Ascent.{Ascent}
use Rattle.dual_search.proofs.TermLemmas.{coefficient-own, coefficient-other}
use Rattle.dual_search.proofs.EntryLemmas.{is-zero, entries-told, rows-below}

none-past : (n i : ℕ) (es : List Entry) → RowsBelow n es → n ≤ i → coefficient i es ≡ pos 0
none-past n i [] below h = refl
none-past n i (e ∷ es) below h =
    let other : e.0 ≢ i = omega (arith, below.0, h) in
    coefficient-other i e es other ∙ none-past n i es below.1 h

none-early : (i k : ℕ) (ys : List ℤ) → i < k → coefficient i (entries_of k ys) ≡ pos 0
none-early i k [] h = refl
none-early i k (y ∷ ys) h = by_test (none-early i (suc k) ys (omega (arith, h))) (int_eq y (pos 0))
  where
    by_test : coefficient i (entries_of (suc k) ys) ≡ pos 0 → (b : Bool) → coefficient i (cond b (entries_of (suc k) ys) ((k, y) ∷ entries_of (suc k) ys)) ≡ pos 0
    by_test rest true = rest
    by_test rest false =
        let e : Entry = (k, y) in
        let other : k ≢ i = omega (arith, h) in
        coefficient-other i e (entries_of (suc k) ys) other ∙ rest

-- the multipliers of a vector of multipliers of all rows
multiplier-at : (k i : ℕ) (ys : List ℤ) → i < length ys → coefficient (k + i) (entries_of k ys) ≡ int_at ys i
multiplier-at k i [] h = absurd (omega arith)
multiplier-at k zero (y ∷ ys) h = by_test (int_eq y (pos 0)) refl
  where
    at : k + 0 ≡ k
    at = omega arith

    none : coefficient (k + 0) (entries_of (suc k) ys) ≡ pos 0
    none = none-early (k + 0) (suc k) ys (omega arith)

    by_test : (b : Bool) → int_eq y (pos 0) ≡ b → coefficient (k + 0) (cond b (entries_of (suc k) ys) ((k, y) ∷ entries_of (suc k) ys)) ≡ y
    by_test true e = none ∙ sym (is-zero y e)
    by_test false e =
        let f : Entry = (k, y) in
        let own : coefficient (k + 0) ((k, y) ∷ entries_of (suc k) ys) ≡ y +ℤ coefficient (k + 0) (entries_of (suc k) ys) = coefficient-own (k + 0) f (entries_of (suc k) ys) (sym at) in
        omega (arith, ints, own, none)
multiplier-at k (suc i) (y ∷ ys) h = by_test (multiplier-at (suc k) i ys (omega (arith, h))) (int_eq y (pos 0))
  where
    at : k + suc i ≡ suc k + i
    at = omega arith

    by_test : coefficient (suc k + i) (entries_of (suc k) ys) ≡ int_at ys i → (b : Bool) → coefficient (k + suc i) (cond b (entries_of (suc k) ys) ((k, y) ∷ entries_of (suc k) ys)) ≡ int_at ys i
    by_test rest true = subst (λ (n : ℕ). coefficient n (entries_of (suc k) ys) ≡ int_at ys i) (sym at) rest
    by_test rest false =
        let f : Entry = (k, y) in
        let other : k ≢ k + suc i = omega arith in
        coefficient-other (k + suc i) f (entries_of (suc k) ys) other ∙ subst (λ (n : ℕ). coefficient n (entries_of (suc k) ys) ≡ int_at ys i) (sym at) rest

-- a change by one is one of two
by-one : (d : ℤ) → unsigned_abs d ≡ 1 → (d ≡ unit true) ⊎ (d ≡ unit false)
by-one (pos n) e = let is : n ≡ 1 = omega (arith, ints, e) in inl (ap (λ (m : ℕ). pos m) is)
by-one (negsuc n) e = let is : n ≡ 0 = omega (arith, ints, e) in inr (ap (λ (m : ℕ). negsuc m) is)

-- what a neighbour is
record IsBeside (a : Ascent) (w : Multipliers) (row : ℕ) (y : ℤ) : Type 0 where
  inside : row < length a.multipliers.items
  same : w ≡ with_multiplier a row (int_at a.multipliers.items row +ℤ y)

beside : (rows : ℕ) (a : Ascent) (w : Multipliers) (n : IsNeighbour rows (vector_at a) w) → length a.multipliers.items ≡ rows → (y : ℤ) → multiplier w n.row -ℤ multiplier (vector_at a) n.row ≡ y → unsigned_abs y ≡ 1 → IsBeside a w n.row y
beside rows a w n count y change one = by_place (nat_lt n.row rows) refl
  where
    ys : List ℤ
    ys = a.multipliers.items

    at_row : (i : ℕ) → i < length a.multipliers.items → multiplier (vector_at a) i ≡ int_at a.multipliers.items i
    at_row i h = let z : 0 + i ≡ i = omega arith in subst (λ (j : ℕ). coefficient j (entries_of 0 a.multipliers.items) ≡ int_at a.multipliers.items i) z (multiplier-at 0 i a.multipliers.items h)

    to : ℤ
    to = int_at a.multipliers.items n.row +ℤ y

    inside_case : n.row < length a.multipliers.items → IsBeside a w n.row y
    inside_case h =
        let z : ℤ = int_at a.multipliers.items n.row +ℤ y in
        let next : List ℤ = slice_set a.multipliers.items n.row z in
        let size : length (slice_set a.multipliers.items n.row z) ≡ rows = length-set a.multipliers.items n.row z ∙ count in
        let whole : rows ≡ 0 + length (slice_set a.multipliers.items n.row z) = omega (arith, size) in
        let own : multiplier w n.row ≡ z = omega (arith, ints, change, at_row n.row h) in
        let values : (i : ℕ) → i < length (slice_set a.multipliers.items n.row z) → coefficient (0 + i) w.entries ≡ int_at (slice_set a.multipliers.items n.row z) i = λ i g.
        let shift : i ≡ 0 + i = omega arith in
        subst (λ (j : ℕ). coefficient j w.entries ≡ int_at (slice_set a.multipliers.items n.row z) i) shift
        (by_row i (omega (arith, g, size, count)) h z own (nat_eq n.row i) refl) in
        let told : w.entries ≡ entries_of 0 (slice_set a.multipliers.items n.row z) = entries-told 0 (slice_set a.multipliers.items n.row z) w.entries n.limits.entries (subst (λ (m : ℕ). RowsBelow m w.entries) whole n.rows_below) values in
        record {
          inside = h;
          same = ap (λ (m : ℕ). let v : Multipliers = record { scale = m; entries = w.entries } in v) n.scale ∙ ap (λ (l : List Entry). let v : Multipliers = record { scale = a.scale; entries = l } in v) told;
        }
      where
        by_row : (i : ℕ) → i < length a.multipliers.items → n.row < length a.multipliers.items → (z : ℤ) → multiplier w n.row ≡ z → (b : Bool) → nat_eq n.row i ≡ b → coefficient i w.entries ≡ int_at (slice_set a.multipliers.items n.row z) i
        by_row i g h z own true e =
            let here : n.row ≡ i = grind (arith, nat_tests, e) in
            subst (λ (j : ℕ). coefficient j w.entries ≡ int_at (slice_set a.multipliers.items n.row z) j) here (own ∙ sym (get_or-set_same a.multipliers.items n.row z (pos 0) h))
        by_row i g h z own false e =
            let other : i ≢ n.row = grind (arith, nat_tests, e) in
            n.elsewhere i other ∙ at_row i g ∙ sym (get_or-set_other a.multipliers.items n.row i z (pos 0) other)

    by_place : (b : Bool) → nat_lt n.row rows ≡ b → IsBeside a w n.row y
    by_place true e = inside_case (let h : n.row < rows = grind (arith, nat_tests, e) in omega (arith, h, count))
    by_place false e =
        let past : rows ≤ n.row = grind (arith, nat_tests, e) in
        let nothing : multiplier w n.row ≡ pos 0 = none-past rows n.row w.entries n.rows_below past in
        let none : multiplier (vector_at a) n.row ≡ pos 0 = none-past rows n.row (entries_of 0 a.multipliers.items) (rows-below rows 0 a.multipliers.items (omega (arith, count))) past in
        absurd (omega (arith, ints, change, nothing, none, one))

no-better : (p : Scenarios) (a : Ascent) (boxes : List Box) (w : Multipliers) (row : ℕ) (y : ℤ) → IsBeside a w row y → KeepsLimits w → IsTopAt p a boxes row y → total_of p a boxes w ≤ℤ total_of p a boxes (vector_at a)
no-better p a boxes w row y b limits top =
    subst (λ (v : Multipliers). total_of p a boxes v ≤ℤ total_of p a boxes (vector_at a)) (sym b.same)
    (top (subst (λ (v : Multipliers). KeepsLimits v) b.same limits))

-- at a top no neighbour has a greater total
top-neighbour : (p : Scenarios) (a : Ascent) (boxes : List Box) (w : Multipliers) → IsCarried p a → IsTop p a boxes → IsNeighbour (length p.model.rows) (vector_at a) w → total_of p a boxes w ≤ℤ total_of p a boxes (vector_at a)
top-neighbour p a boxes w carried top n = by_sign (by-one (multiplier w n.row -ℤ multiplier (vector_at a) n.row) n.by_one)
  where
    by_sign : (multiplier w n.row -ℤ multiplier (vector_at a) n.row ≡ unit true) ⊎ (multiplier w n.row -ℤ multiplier (vector_at a) n.row ≡ unit false) → total_of p a boxes w ≤ℤ total_of p a boxes (vector_at a)
    by_sign (inl e) =
        let b = beside (length p.model.rows) a w n carried.rows (unit true) e refl in
        no-better p a boxes w n.row (unit true) b n.limits (top n.row (omega (arith, b.inside, carried.rows))).above
    by_sign (inr e) =
        let b = beside (length p.model.rows) a w n carried.rows (unit false) e refl in
        no-better p a boxes w n.row (unit false) b n.limits (top n.row (omega (arith, b.inside, carried.rows))).below

-- ---- the answer of a search

pub record IsAnswer (p : Scenarios) (live : List ℕ) (boxes : List Box) (start v : Multipliers) : Type 0 where
  pub scale : v.scale ≡ start.scale
  pub rows_below : RowsBelow (length p.model.rows) v.entries
  pub least : total (problem p) live boxes start ≤ℤ total (problem p) live boxes v
  pub greater : IsAscended (problem p) live boxes start v

ascended-least : (p : Scenarios) (boxes : List Box) (before after : Ascent) → IsSameSearch before after → HasAscended p boxes before after → total_of p before boxes (vector_at before) ≤ℤ total_of p before boxes (vector_at after)
ascended-least p boxes before after same (inl h) = omega (arith, ints, h)
ascended-least p boxes before after same (inr h) =
    let e : vector_at after ≡ vector_at before = ap (λ (n : ℕ). vector_of n after.multipliers.items) same.scale ∙ ap (λ (l : List ℤ). vector_of before.scale l) h.0 in
    let t : total_of p before boxes (vector_at after) ≡ total_of p before boxes (vector_at before) = ap (λ (v : Multipliers). total_of p before boxes v) e in
    omega (arith, ints, t)

ascended-greater : (p : Scenarios) (boxes : List Box) (before after : Ascent) (w : Multipliers) → IsCarried p before → HasAscended p boxes before after → IsNeighbour (length p.model.rows) (vector_at before) w → total_of p before boxes (vector_at before) <ℤ total_of p before boxes w → total_of p before boxes (vector_at before) <ℤ total_of p before boxes (vector_at after)
ascended-greater p boxes before after w carried (inl h) n greater = h
ascended-greater p boxes before after w carried (inr h) n greater =
    let no = top-neighbour p before boxes w carried h.1 n in
    absurd (omega (arith, ints, no, greater))

answer-of : (p : Scenarios) (boxes : List Box) (before after : Ascent) → IsCarried p before → IsCarried p after → IsSameSearch before after → HasAscended p boxes before after → IsAnswer p before.scenarios.items boxes (vector_at before) (vector_at after)
answer-of p boxes before after old new same ascended = record {
  scale = same.scale;
  rows_below = rows-below (length p.model.rows) 0 after.multipliers.items (omega (arith, new.rows));
  least = ascended-least p boxes before after same ascended;
  greater = λ w n greater. ascended-greater p boxes before after w old ascended n greater;
}

pub answer : (p : Scenarios) (live : List ℕ) (boxes : List Box) (start v : Multipliers) (before after : Ascent) → IsCarried p before → IsCarried p after → IsSameSearch before after → HasAscended p boxes before after → before.scenarios.items ≡ live → vector_at before ≡ start → v ≡ vector_at after → IsAnswer p live boxes start v
answer p live boxes start v before after old new same ascended of_live of_start is =
    subst (λ (x : Multipliers). IsAnswer p live boxes start x) (sym is)
    (subst (λ (x : Multipliers). IsAnswer p live boxes x (vector_at after)) of_start
    (subst (λ (l : List ℕ). IsAnswer p l boxes (vector_at before) (vector_at after)) of_live (answer-of p boxes before after old new same ascended)))
