-- The terms of a row, behind one more column or one more entry.
use Rattle.std.proofs.Common.{◌≡◌, ◌∙◌, ap, sym, subst, ℕ, ℤ, pos, ◌+◌, ◌<◌, Bool, true, false, ◌&&◌, cond, List, [], ◌∷◌, ◌++◌, length, get_or, Some, None, refl, arith, append-nil, suc, length-append}
use Rattle.std.specs.Prelude.{bytes_eq, unwrap_or}
use Rattle.std.specs.List.{IsDistinct}
use Rattle.std.proofs.lemmas.Bool.{or_parts, both_ways}
use Rattle.std.proofs.lemmas.List.{length_push, get_or_push, get_or_append_left, append_assoc}
use Rattle.std.proofs.lemmas.List.Folds.{Any-from_list_any}
use Rattle.std.proofs.lemmas.Map.Keys.{apart_from_distinct, IsDistinct-from_apart}
use Rattle.mps_reader.specs.MpsLines.{Entry, is_one_of, last_of}
use Rattle.mps_reader.specs.MpsRules.{is_nonzero}
use Rattle.mps_reader.specs.MpsModels.{given, number_in, number_or_zero, is_not_zero, terms_from}
use Rattle.mps_reader.specs.RowStates.{is_given, entry_with}
use Rattle.mps_reader.proofs.OpeningLemmas.{none_when, bytes_eq-sym}
use Rattle.mps_reader.proofs.EntryLemmas.{given_some, number_other, number_new, nonzero_is}

pub given_none : (es : List Entry) (o n : List ℕ) → is_given es o n ≡ false → given es o n ≡ None
given_none es o n e = none_when (given es o n) (given_some es o n ∙ e)

pub zero_in : (es : List Entry) (o n : List ℕ) → is_given es o n ≡ false → number_in es o n ≡ pos 0
zero_in es o n e = ap (λ g. unwrap_or g (pos 0)) (given_none es o n e)

kept_b : (b : Bool) (t : ℕ × ℤ) (xs ys : List (ℕ × ℤ)) → cond b (t ∷ (xs ++ ys)) (xs ++ ys) ≡ cond b (t ∷ xs) xs ++ ys
kept_b true t xs ys = refl
kept_b false t xs ys = refl

abbrev pub term_if : ℕ → ℤ → List (ℕ × ℤ)
term_if k z = cond (is_not_zero z) ((k, z) ∷ []) []

pub terms_push : (k : ℕ) (es : List Entry) (cs : List (List ℕ)) (c n : List ℕ) → terms_from k es (cs ++ c ∷ []) n ≡ terms_from k es cs n ++ term_if (k + length cs) (number_in es c n)
terms_push k es [] c n = let e : k ≡ k + 0 = omega arith in ap (λ i. term_if i (number_in es c n)) e
terms_push k es (d ∷ cs) c n =
    let e : k + 1 + length cs ≡ k + suc (length cs) = omega arith in
    ap (λ r. cond (is_not_zero (number_in es d n)) ((k, number_in es d n) ∷ r) r) (terms_push (k + 1) es cs c n)
    ∙ kept_b (is_not_zero (number_in es d n)) (k, number_in es d n) (terms_from (k + 1) es cs n) (term_if (k + 1 + length cs) (number_in es c n))
    ∙ ap (λ i. cond (is_not_zero (number_in es d n)) ((k, number_in es d n) ∷ terms_from (k + 1) es cs n) (terms_from (k + 1) es cs n) ++ term_if i (number_in es c n)) e

abbrev pub next_terms : ℕ → ℤ → List (ℕ × ℤ) → List (ℕ × ℤ)
next_terms k z r = cond (is_not_zero z) ((k, z) ∷ r) r

-- other entries, where the columns have none of an owner
pub terms_apart : (k : ℕ) (es fs : List Entry) (cs : List (List ℕ)) (owner n : List ℕ) → is_one_of cs owner ≡ false → ((c : List ℕ) → bytes_eq owner c ≡ false → number_in fs c n ≡ number_in es c n) → terms_from k fs cs n ≡ terms_from k es cs n
terms_apart k es fs [] owner n absent same = refl
terms_apart k es fs (c ∷ cs) owner n absent same =
    let parts = or_parts (bytes_eq owner c) (is_one_of cs owner) absent in
    ap (λ z. next_terms k z (terms_from (k + 1) fs cs n)) (same c parts.0)
    ∙ ap (next_terms k (number_in es c n)) (terms_apart (k + 1) es fs cs owner n parts.1 same)

pub terms_same : (k : ℕ) (es fs : List Entry) (cs : List (List ℕ)) (n : List ℕ) → ((c : List ℕ) → number_in fs c n ≡ number_in es c n) → terms_from k fs cs n ≡ terms_from k es cs n
terms_same k es fs [] n same = refl
terms_same k es fs (c ∷ cs) n same =
    ap (λ z. next_terms k z (terms_from (k + 1) fs cs n)) (same c)
    ∙ ap (next_terms k (number_in es c n)) (terms_same (k + 1) es fs cs n same)

pub terms_none : (k : ℕ) (es : List Entry) (cs : List (List ℕ)) (n : List ℕ) → ((c : List ℕ) → number_in es c n ≡ pos 0) → terms_from k es cs n ≡ []
terms_none k es [] n none = refl
terms_none k es (c ∷ cs) n none = ap (λ z. next_terms k z (terms_from (k + 1) es cs n)) (none c) ∙ terms_none (k + 1) es cs n none

-- ---- the last column

abbrev pub EndsAs : List (List ℕ) → List ℕ → Type 0
EndsAs cs owner = (front : List (List ℕ)) × (cs ≡ front ++ owner ∷ [])

pub split_last : (cs : List (List ℕ)) (owner : List ℕ) → last_of cs ≡ Some owner → EndsAs cs owner
split_last [] owner e = absurd (cc)
split_last (c ∷ []) owner e = let same : c ≡ owner = cc in ([], ap (λ (d : List ℕ). d ∷ []) same)
split_last (c ∷ d ∷ cs) owner e = let rest : EndsAs (d ∷ cs) owner = split_last (d ∷ cs) owner e in (c ∷ rest.0, ap (λ r. c ∷ r) rest.1)

pub absent_b : (front : List (List ℕ)) (owner : List ℕ) (b : Bool) → IsDistinct bytes_eq (front ++ owner ∷ []) → is_one_of front owner ≡ b → b ≡ false
absent_b front owner false d e = refl
absent_b front owner true d e =
    let found = Any-from_list_any (bytes_eq owner) front e in
    let k : ℕ = found.0 in
    let x : List ℕ = found.1 in
    let below : k < length front = found.2 in
    let within : length front < length (front ++ owner ∷ []) = omega (arith, length_push front owner) in
    let differ : bytes_eq (get_or (front ++ owner ∷ []) k x) (get_or (front ++ owner ∷ []) (length front) x) ≡ false = apart_from_distinct bytes_eq (front ++ owner ∷ []) k (length front) x d below within in
    let left : get_or (front ++ owner ∷ []) k x ≡ x = get_or_append_left front (owner ∷ []) x k below ∙ found.3 in
    let right : get_or (front ++ owner ∷ []) (length front) x ≡ owner = get_or_push front owner x (length front) refl in
    absurd (both_ways (bytes_eq owner x) (bytes_eq-sym owner x ∙ sym (ap (λ w. bytes_eq w owner) left) ∙ sym (ap (bytes_eq (get_or (front ++ owner ∷ []) k x)) right) ∙ differ) found.4)

-- one more number of the last column
pub terms_added : (es : List Entry) (cs : List (List ℕ)) (owner n text : List ℕ) (column : ℕ) → last_of cs ≡ Some owner → IsDistinct bytes_eq cs → length cs ≡ column + 1 → is_given es owner n ≡ false → terms_from 0 (es ++ entry_with owner n text ∷ []) cs n ≡ terms_from 0 es cs n ++ cond (is_nonzero text) ((column, number_or_zero text) ∷ []) []
terms_added es cs owner n text column last distinct size none =
    let ends : EndsAs cs owner = split_last cs owner last in
    let front : List (List ℕ) = ends.0 in
    let absent : is_one_of front owner ≡ false = absent_b front owner (is_one_of front owner) (subst (λ (r : List (List ℕ)). IsDistinct bytes_eq r) ends.1 distinct) refl in
    let place : 0 + length front ≡ column = omega (arith, length_push front owner, ap length ends.1, size) in
    let e : Entry = entry_with owner n text in
    let fs : List Entry = es ++ e ∷ [] in
    let before : terms_from 0 es cs n ≡ terms_from 0 es front n = ap (λ r. terms_from 0 es r n) ends.1 ∙ terms_push 0 es front owner n ∙ ap (λ z. terms_from 0 es front n ++ term_if (0 + length front) z) (zero_in es owner n none) ∙ append-nil (terms_from 0 es front n) in
    let value : number_in fs owner n ≡ number_or_zero text = ap (λ g. unwrap_or g (pos 0)) (number_new es e none) in
    let same : terms_from 0 fs front n ≡ terms_from 0 es front n = terms_apart 0 es fs front owner n absent (λ c other. ap (λ g. unwrap_or g (pos 0)) (number_other es e c n (ap (λ b. b && bytes_eq n n) other))) in
    ap (λ r. terms_from 0 fs r n) ends.1
    ∙ terms_push 0 fs front owner n
    ∙ ap (λ r. r ++ term_if (0 + length front) (number_in fs owner n)) same
    ∙ ap (λ z. terms_from 0 es front n ++ term_if (0 + length front) z) value
    ∙ ap (λ i. terms_from 0 es front n ++ term_if i (number_or_zero text)) place
    ∙ ap (λ b. terms_from 0 es front n ++ cond b ((column, number_or_zero text) ∷ []) []) (sym (nonzero_is text))
    ∙ ap (λ r. r ++ cond (is_nonzero text) ((column, number_or_zero text) ∷ []) []) (sym before)

-- distinct names, as far as one of them
pub distinct_front : (front : List (List ℕ)) (n : List ℕ) (rest : List (List ℕ)) → IsDistinct bytes_eq (front ++ n ∷ rest) → IsDistinct bytes_eq (front ++ n ∷ [])
distinct_front front n rest d =
    IsDistinct-from_apart bytes_eq (front ++ n ∷ [])
    (λ i j x below inside.
    let whole : j < length ((front ++ n ∷ []) ++ rest) = omega (arith, inside, length-append (front ++ n ∷ []) rest) in
    let all : IsDistinct bytes_eq ((front ++ n ∷ []) ++ rest) = subst (λ (xs : List (List ℕ)). IsDistinct bytes_eq xs) (sym (append_assoc front (n ∷ []) rest)) d in
    ap (λ w. bytes_eq w (get_or (front ++ n ∷ []) j x)) (sym (get_or_append_left (front ++ n ∷ []) rest x i (omega (arith, below, inside))))
    ∙ ap (bytes_eq (get_or ((front ++ n ∷ []) ++ rest) i x)) (sym (get_or_append_left (front ++ n ∷ []) rest x j inside))
    ∙ apart_from_distinct bytes_eq ((front ++ n ∷ []) ++ rest) i j x all below whole)
