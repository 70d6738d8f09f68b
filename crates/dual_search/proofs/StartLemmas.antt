-- The entries of a vector, one after another.
use Rattle.std.specs.Prelude.{◌≡◌, ◌≢◌, ℕ, zero, suc, ◌+◌, ◌^◌, ◌<◌, ◌≤◌, ℤ, pos, ◌+ℤ◌, Bool, true, false, List, [], ◌∷◌, length, slice_index_or, slice_set, take, nat_eq, refl}
use Rattle.std.proofs.Common.{arith, ap, sym, subst, ◌∙◌}
use Rattle.std.proofs.lemmas.Bool.Decides.{nat_tests}
use Rattle.std.proofs.lemmas.Int.{ints}
use Rattle.std.proofs.lemmas.List.{get_or-set_same, get_or-set_other, take_all}
use Rattle.int_model.specs.Integers.{int_at}
use Rattle.int_model.specs.RowSums.{coefficient}
use Rattle.dual_bounds.specs.Vectors.{Entry, Multipliers, AreEntries, RowsBelow, KeepsLimits}
use Rattle.dual_search.specs.Gains.{entries_of, vector_of}
use Rattle.dual_search.proofs.TermLemmas.{coefficient-own, coefficient-other}
use Rattle.dual_search.proofs.EntryLemmas.{entries-told}

take-entries : (least k : ℕ) (es : List Entry) → AreEntries least es → AreEntries least (take k es)
take-entries least zero es all = tt
take-entries least (suc k) [] all = tt
take-entries least (suc k) (e ∷ es) all = (all.0, all.1, all.2, take-entries (e.0 + 1) k es all.3)

take-below : (n k : ℕ) (es : List Entry) → RowsBelow n es → RowsBelow n (take k es)
take-below n zero es all = tt
take-below n (suc k) [] all = tt
take-below n (suc k) (e ∷ es) all = (all.0, take-below n k es all.1)

take-length : (k : ℕ) (es : List Entry) → length (take k es) ≤ length es
take-length zero es = omega arith
take-length (suc k) [] = omega arith
take-length (suc k) (e ∷ es) = omega (arith, take-length k es)

row-above : (least k : ℕ) (es : List Entry) (d : Entry) → AreEntries least es → k < length es → least ≤ (slice_index_or es k d).0
row-above least k [] d all h = absurd (omega arith)
row-above least zero (e ∷ es) d all h = all.0
row-above least (suc k) (e ∷ es) d all h = omega (arith, all.0, row-above (e.0 + 1) k es d all.3 (omega arith))

-- no entry before the k-th is of its row
row-fresh : (least k : ℕ) (es : List Entry) (d : Entry) → AreEntries least es → k < length es → coefficient (slice_index_or es k d).0 (take k es) ≡ pos 0
row-fresh least zero es d all h = refl
row-fresh least (suc k) [] d all h = absurd (omega arith)
row-fresh least (suc k) (e ∷ es) d all h =
    let after : e.0 + 1 ≤ (slice_index_or es k d).0 = row-above (e.0 + 1) k es d all.3 (omega arith) in
    coefficient-other (slice_index_or es k d).0 e (take k es) (omega (arith, after)) ∙ row-fresh (e.0 + 1) k es d all.3 (omega arith)

one-more : (i : ℕ) (e : Entry) (es more : List Entry) (x : ℤ) → coefficient i more ≡ coefficient i es +ℤ x → coefficient i (e ∷ more) ≡ coefficient i (e ∷ es) +ℤ x
one-more i e es more x h = omega (arith, ints, h)

take-more : (i k : ℕ) (es : List Entry) (d : Entry) → k < length es → coefficient i (take (suc k) es) ≡ coefficient i (take k es) +ℤ coefficient i (slice_index_or es k d ∷ [])
take-more i k [] d h = absurd (omega arith)
take-more i zero (e ∷ es) d h = omega (arith, ints)
take-more i (suc k) (e ∷ es) d h = one-more i e (take k es) (take (suc k) es) (coefficient i (slice_index_or es k d ∷ [])) (take-more i k es d (omega arith))

-- the multipliers of the first k entries
pub record AreTold (es : List Entry) (k : ℕ) (ys : List ℤ) : Type 0 where
  pub told : (i : ℕ) → int_at ys i ≡ coefficient i (take k es)

pub told-more : (es : List Entry) (k : ℕ) (d : Entry) (ys : List ℤ) → AreEntries 0 es → RowsBelow (length ys) es → k < length es → AreTold es k ys → AreTold es (suc k) (slice_set ys (slice_index_or es k d).0 (slice_index_or es k d).1)
told-more es k d ys all below h before = record { told = λ i. at i (nat_eq (slice_index_or es k d).0 i) refl }
  where
    e : Entry
    e = slice_index_or es k d

    row-in : (n j : ℕ) (fs : List Entry) → RowsBelow n fs → j < length fs → (slice_index_or fs j d).0 < n
    row-in n j [] b g = absurd (omega arith)
    row-in n zero (f ∷ fs) b g = b.0
    row-in n (suc j) (f ∷ fs) b g = row-in n j fs b.1 (omega arith)

    own : int_at (slice_set ys (slice_index_or es k d).0 (slice_index_or es k d).1) (slice_index_or es k d).0 ≡ coefficient (slice_index_or es k d).0 (take (suc k) es)
    own =
        let r : ℕ = (slice_index_or es k d).0 in
        let set = get_or-set_same ys (slice_index_or es k d).0 (slice_index_or es k d).1 (pos 0) (row-in (length ys) k es below h) in
        let fresh : coefficient (slice_index_or es k d).0 (take k es) ≡ pos 0 = row-fresh 0 k es d all h in
        let more = take-more (slice_index_or es k d).0 k es d h in
        let single = coefficient-own (slice_index_or es k d).0 (slice_index_or es k d) [] refl in
        omega (arith, ints, set, fresh, more, single)

    at : (i : ℕ) (b : Bool) → nat_eq (slice_index_or es k d).0 i ≡ b → int_at (slice_set ys (slice_index_or es k d).0 (slice_index_or es k d).1) i ≡ coefficient i (take (suc k) es)
    at i true q =
        let same : (slice_index_or es k d).0 ≡ i = grind (arith, nat_tests, q) in
        subst (λ (j : ℕ). int_at (slice_set ys (slice_index_or es k d).0 (slice_index_or es k d).1) j ≡ coefficient j (take (suc k) es)) same own
    at i false q =
        let other : (slice_index_or es k d).0 ≢ i = grind (arith, nat_tests, q) in
        let back : i ≢ (slice_index_or es k d).0 = omega (arith, other) in
        let set = get_or-set_other ys (slice_index_or es k d).0 i (slice_index_or es k d).1 (pos 0) back in
        let more = take-more i k es d h in
        let none = coefficient-other i (slice_index_or es k d) [] other in
        omega (arith, ints, set, before.told i, more, none)

pub told-entries : (es : List Entry) (k : ℕ) (ys : List ℤ) → AreEntries 0 es → RowsBelow (length ys) es → AreTold es k ys → entries_of 0 ys ≡ take k es
told-entries es k ys all below t =
    let count : length ys ≡ 0 + length ys = omega arith in
    sym (entries-told 0 ys (take k es) (take-entries 0 k es all) (subst (λ (n : ℕ). RowsBelow n (take k es)) count (take-below (length ys) k es below))
    (λ i h. let at : i ≡ 0 + i = omega arith in subst (λ (j : ℕ). coefficient j (take k es) ≡ int_at ys i) at (sym (t.told i))))

pub told-limits : (scale : ℕ) (es : List Entry) (k : ℕ) (ys : List ℤ) → scale ≤ 2 ^ 20 → length es ≤ 128 → AreEntries 0 es → RowsBelow (length ys) es → AreTold es k ys → KeepsLimits (vector_of scale ys)
told-limits scale es k ys s few all below t =
    let is : take k es ≡ entries_of 0 ys = sym (told-entries es k ys all below t) in
    record {
      scale = s;
      few = subst (λ (l : List Entry). length l ≤ 128) is (omega (arith, few, take-length k es));
      entries = subst (λ (l : List Entry). AreEntries 0 l) is (take-entries 0 k es all);
    }

pub told-none : (es : List Entry) (ys : List ℤ) → ((i : ℕ) → int_at ys i ≡ pos 0) → AreTold es 0 ys
told-none es ys none = record { told = none }

-- all entries are told
pub told-start : (scale : ℕ) (v : Multipliers) (es : List Entry) (k : ℕ) (ys : List ℤ) → scale ≡ v.scale → es ≡ v.entries → AreEntries 0 es → RowsBelow (length ys) es → length es ≤ k → AreTold es k ys → vector_of scale ys ≡ v
told-start scale v es k ys s e all below h t =
    ap (λ (n : ℕ). vector_of n ys) s
    ∙ ap (λ (l : List Entry). let w : Multipliers = record { scale = v.scale; entries = l } in w) (told-entries es k ys all below t ∙ take_all k es h ∙ e)
