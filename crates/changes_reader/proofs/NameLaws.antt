-- What a name means.
use Rattle.std.proofs.Common.{◌≡◌, ◌∙◌, ap, sym, ℕ, ◌<◌, Bool, cond, nat_lt, true, false, List, length, get_or, Option, Some, None, refl, arith, inl, inr, ◌↔◌}
use Rattle.std.specs.Prelude.{bytes_eq, slice_get}
use Rattle.std.specs.List.{position_or_len}
use Rattle.std.proofs.lemmas.Bool.{cases_Bool, eqb-true, eq-eqb, lt-ltb, true≢false}
use Rattle.std.proofs.lemmas.Option.{get_or_from_slice_get, slice_get-get_or, slice_get_cases}
use Rattle.std.proofs.lemmas.Slice.Eq.{bytes_eq-Decides}
use Rattle.std.proofs.lemmas.List.Quantifiers.{position-Some}
use Rattle.std.proofs.lemmas.List.Sums.{position_or_len_is}
use Rattle.int_model.specs.Build.{AreDistinct}
use Rattle.changes_reader.specs.Names.{number_named, is_number, means}

not_some : (name : List ℕ) → None ≡ Some name → ⊥
not_some name e = cc

-- the place of a name has that name
at_place : (names : List (List ℕ)) (name : List ℕ) (i j : ℕ) → number_named names name ≡ Some i → i ≡ j → slice_get names j ≡ Some name
at_place names name i j e same =
    let found = position-Some (λ (n : List ℕ). bytes_eq n name) names i name e in
    ap (slice_get names) (sym same) ∙ slice_get-get_or names i name found.0 ∙ ap Some ((bytes_eq-Decides (get_or names i name) name).0 found.1)

means_has : (names : List (List ℕ)) (name : List ℕ) (j : ℕ) (place : Option ℕ) → number_named names name ≡ place → is_number place j ≡ true → slice_get names j ≡ Some name
means_has names name j None e m = absurd (true≢false (sym m))
means_has names name j (Some i) e m = at_place names name i j e (eqb-true i j m)

found_within : (names : List (List ℕ)) (name : List ℕ) (j : ℕ) → slice_get names j ≡ Some name → j < length names
found_within names name j at =
    elim (slice_get_cases names j).1 [
      | inl (x, h, same, read) ↦ h
      | inr (h, none) ↦ absurd (not_some name (sym none ∙ at))
    ]

-- and a name that stands at a place stands at no earlier one
has_means : (names : List (List ℕ)) → AreDistinct names → (name : List ℕ) (j : ℕ) → slice_get names j ≡ Some name → means names name j ≡ true
has_means names distinct name j at =
    let here : get_or names j name ≡ name = get_or_from_slice_get names j name name at in
    let within : j < length names = found_within names name j at in
    let earlier : (k : ℕ) → k < j → bytes_eq (get_or names k name) name ≡ false = λ k h.
    elim (cases_Bool (bytes_eq (get_or names k name) name)) [
      | inl t ↦ absurd (distinct k j name h within ((bytes_eq-Decides (get_or names k name) name).0 t ∙ sym here))
      | inr t ↦ t
    ] in
    let first : position_or_len (λ (n : List ℕ). bytes_eq n name) names ≡ j = position_or_len_is (λ (n : List ℕ). bytes_eq n name) names j name (omega (arith, within)) earlier (λ h. (bytes_eq-Decides (get_or names j name) name).1 here) in
    let place : number_named names name ≡ Some j = ap (λ (i : ℕ). cond (nat_lt i (length names)) (Some i) None) first ∙ ap (λ (b : Bool). cond b (Some j) None) (lt-ltb j (length names) within) in
    ap (λ (o : Option ℕ). is_number o j) place ∙ eq-eqb j j refl

pub name-meaning : (names : List (List ℕ)) → AreDistinct names → (name : List ℕ) (j : ℕ) → (means names name j ≡ true) ↔ (slice_get names j ≡ Some name)
name-meaning names distinct name j = (means_has names name j (number_named names name) refl, has_means names distinct name j)
