-- The terms by column are those of the rows, transposed.
use Rattle.std.specs.Prelude.{◌≡◌, ℕ, zero, suc, ◌+◌, ◌<◌, ◌==◌, ℤ, pos, ◌+ℤ◌, true, false, List, [], ◌∷◌, ◌++◌, length, slice_index_or, refl}
use Rattle.std.proofs.Common.{arith, ap, sym, ◌∙◌, subst, inl, inr, eq-eqb}
use Rattle.std.proofs.lemmas.Bool.{cases_Bool, eqb-true, ne_eqb}
use Rattle.std.proofs.lemmas.Int.{ints}
use Rattle.int_model.specs.Programs.{Terms, AreTerms, AreRows}
use Rattle.int_model.specs.RowSums.{coefficient}
use Rattle.int_model.specs.ByColumn.{column_part, column_terms}

-- ---- one term more, with its column or another

part-hit : (j i : ℕ) (t : ℕ × ℤ) (ts : Terms) → (t.0 == j) ≡ true → column_part j i (t ∷ ts) ≡ (i, t.1) ∷ column_part j i ts
part-hit j i t ts e = rw e refl

part-miss : (j i : ℕ) (t : ℕ × ℤ) (ts : Terms) → (t.0 == j) ≡ false → column_part j i (t ∷ ts) ≡ column_part j i ts
part-miss j i t ts e = rw e refl

coefficient-hit : (j : ℕ) (t : ℕ × ℤ) (ts : Terms) → (t.0 == j) ≡ true → coefficient j (t ∷ ts) ≡ t.1 +ℤ coefficient j ts
coefficient-hit j t ts e = rw e refl

coefficient-miss : (j : ℕ) (t : ℕ × ℤ) (ts : Terms) → (t.0 == j) ≡ false → coefficient j (t ∷ ts) ≡ coefficient j ts
coefficient-miss j t ts e = rw e (omega (arith, ints))

coefficient-append : (j : ℕ) (ts us : Terms) → coefficient j (ts ++ us) ≡ coefficient j ts +ℤ coefficient j us
coefficient-append j [] us = omega (arith, ints)
coefficient-append j (t ∷ ts) us =
    elim (cases_Bool (t.0 == j)) [
      | inl e ↦ rw (coefficient-hit j t (ts ++ us) e, coefficient-hit j t ts e) (omega (arith, ints, coefficient-append j ts us))
      | inr e ↦ rw (coefficient-miss j t (ts ++ us) e, coefficient-miss j t ts e) (coefficient-append j ts us)
    ]

-- ---- coefficients

part-same : (j i : ℕ) (ts : Terms) → coefficient i (column_part j i ts) ≡ coefficient j ts
part-same j i [] = refl
part-same j i (t ∷ ts) =
    elim (cases_Bool (t.0 == j)) [
      | inl e ↦
          ap (coefficient i) (part-hit j i t ts e)
          ∙ coefficient-hit i (i, t.1) (column_part j i ts) (eq-eqb i i refl)
          ∙ ap (λ z. t.1 +ℤ z) (part-same j i ts)
          ∙ sym (coefficient-hit j t ts e)
      | inr e ↦ ap (coefficient i) (part-miss j i t ts e) ∙ part-same j i ts ∙ sym (coefficient-miss j t ts e)
    ]

part-other : (j i k : ℕ) (ts : Terms) → (i == k) ≡ false → coefficient k (column_part j i ts) ≡ pos 0
part-other j i k [] e = refl
part-other j i k (t ∷ ts) e =
    elim (cases_Bool (t.0 == j)) [
      | inl f ↦ ap (coefficient k) (part-hit j i t ts f) ∙ coefficient-miss k (i, t.1) (column_part j i ts) e ∙ part-other j i k ts e
      | inr f ↦ ap (coefficient k) (part-miss j i t ts f) ∙ part-other j i k ts e
    ]

later : (j i k : ℕ) (rows : List Terms) → k < i → coefficient k (column_terms j i rows) ≡ pos 0
later j i k [] h = refl
later j i k (row ∷ rows) h =
    let apart : i ≡ k → ⊥ = λ e. absurd (omega (arith, e)) in
    let here : coefficient k (column_part j i row) ≡ pos 0 = part-other j i k row (ne_eqb i k apart) in
    let rest : coefficient k (column_terms j (i + 1) rows) ≡ pos 0 = later j (i + 1) k rows (omega arith) in
    coefficient-append k (column_part j i row) (column_terms j (i + 1) rows) ∙ omega (arith, ints, here, rest)

from-row : (rows : List Terms) (first i j : ℕ) → coefficient (first + i) (column_terms j first rows) ≡ coefficient j (slice_index_or rows i [])
from-row [] first i j = refl
from-row (row ∷ rows) first zero j =
    let same : first + 0 ≡ first = omega arith in
    let here : coefficient first (column_part j first row) ≡ coefficient j row = part-same j first row in
    let rest : coefficient first (column_terms j (first + 1) rows) ≡ pos 0 = later j (first + 1) first rows (omega arith) in
    ap (λ k. coefficient k (column_part j first row ++ column_terms j (first + 1) rows)) same
    ∙ coefficient-append first (column_part j first row) (column_terms j (first + 1) rows)
    ∙ omega (arith, ints, here, rest)
from-row (row ∷ rows) first (suc i) j =
    let next : first + 1 + i ≡ first + suc i = omega arith in
    let apart : first ≡ first + suc i → ⊥ = λ e. absurd (omega (arith, e)) in
    let here : coefficient (first + suc i) (column_part j first row) ≡ pos 0 = part-other j first (first + suc i) row (ne_eqb first (first + suc i) apart) in
    let rest : coefficient (first + suc i) (column_terms j (first + 1) rows) ≡ coefficient j (slice_index_or rows i []) = subst (λ (k : ℕ). coefficient k (column_terms j (first + 1) rows) ≡ coefficient j (slice_index_or rows i [])) next (from-row rows (first + 1) i j) in
    coefficient-append (first + suc i) (column_part j first row) (column_terms j (first + 1) rows) ∙ omega (arith, ints, here, rest)

pub transposed : (rows : List Terms) (i j : ℕ) → coefficient i (column_terms j 0 rows) ≡ coefficient j (slice_index_or rows i [])
transposed rows i j =
    let same : 0 + i ≡ i = omega arith in
    subst (λ (k : ℕ). coefficient k (column_terms j 0 rows) ≡ coefficient j (slice_index_or rows i [])) same (from-row rows 0 i j)

-- ---- the rows rise

weaken : (least n : ℕ) (ts : Terms) → AreTerms (least + 1) n ts → AreTerms least n ts
weaken least n [] h = tt
weaken least n (t ∷ ts) h = (omega (arith, h.0), h.1, h.2, h.3, h.4)

no-more : (j i least n : ℕ) (ts : Terms) → AreTerms least n ts → j < least → column_part j i ts ≡ []
no-more j i least n [] h k = refl
no-more j i least n (t ∷ ts) h k =
    let apart : t.0 ≡ j → ⊥ = λ e. absurd (omega (arith, e, h.0)) in
    part-miss j i t ts (ne_eqb t.0 j apart) ∙ no-more j i (t.0 + 1) n ts h.4 (omega (arith, h.0))

put-before : (j i least n m : ℕ) (ts rest : Terms) → AreTerms least n ts → i < m → AreTerms (i + 1) m rest → AreTerms i m (column_part j i ts ++ rest)
put-before j i least n m [] rest h k r = weaken i m rest r
put-before j i least n m (t ∷ ts) rest h k r =
    elim (cases_Bool (t.0 == j)) [
      | inl e ↦
          let same : t.0 ≡ j = eqb-true t.0 j e in
          let alone : column_part j i (t ∷ ts) ≡ (i, t.1) ∷ [] = part-hit j i t ts e ∙ ap (λ (us : Terms). (i, t.1) ∷ us) (no-more j i (t.0 + 1) n ts h.4 (omega (arith, same))) in
          subst (λ (us : Terms). AreTerms i m (us ++ rest)) (sym alone) (omega arith, k, h.2, h.3, r)
      | inr e ↦ subst (λ (us : Terms). AreTerms i m (us ++ rest)) (sym (part-miss j i t ts e)) (put-before j i (t.0 + 1) n m ts rest h.4 k r)
    ]

terms-from : (j n i : ℕ) (rows : List Terms) → AreRows n rows → AreTerms i (i + length rows) (column_terms j i rows)
terms-from j n i [] h = tt
terms-from j n i (row ∷ rows) h =
    let next : i + 1 + length rows ≡ i + suc (length rows) = omega arith in
    let rest : AreTerms (i + 1) (i + suc (length rows)) (column_terms j (i + 1) rows) = subst (λ (m : ℕ). AreTerms (i + 1) m (column_terms j (i + 1) rows)) next (terms-from j n (i + 1) rows h.1) in
    put-before j i 0 n (i + suc (length rows)) row (column_terms j (i + 1) rows) h.0 (omega arith) rest

pub column-terms : (j n : ℕ) (rows : List Terms) → AreRows n rows → AreTerms 0 (length rows) (column_terms j 0 rows)
column-terms j n rows h =
    let same : 0 + length rows ≡ length rows = omega arith in
    subst (λ (m : ℕ). AreTerms 0 m (column_terms j 0 rows)) same (terms-from j n 0 rows h)
