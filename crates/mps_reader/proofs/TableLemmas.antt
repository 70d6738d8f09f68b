-- How items and their names go on: a write, one more, and a change of what is said of them.
use Rattle.std.proofs.Common.{◌≡◌, ◌≢◌, ◌∙◌, ap, sym, subst, ℕ, ◌<◌, ◌+◌, Bool, false, List, [], ◌∷◌, ◌++◌, length, get_or, set, Some, arith, inl, inr, zero, suc, map, refl}
use Rattle.std.specs.Prelude.{bytes_eq}
use Rattle.std.specs.List.{list_any, position, IsDistinct, sum_by}
use Rattle.std.proofs.lemmas.Bool.{cases_eq, cases_lt, cases_order, or_parts}
use Rattle.std.proofs.lemmas.Slice.Eq.{bytes_eq-Decides}
use Rattle.std.proofs.lemmas.List.{length-set, length_push, get_or-set_same, get_or-set_other, get_or_default, get_or_append_left, get_or_push}
use Rattle.std.proofs.lemmas.List.Quantifiers.{position-Some}
use Rattle.std.proofs.lemmas.Map.Keys.{apart_from_distinct}
use Rattle.mps_reader.specs.MpsLines.{is_one_of}
use Rattle.mps_reader.specs.Tables.{IsTable, IsAlong}
use Rattle.mps_reader.proofs.OpeningLemmas.{bytes_eq-sym}
use Rattle.std.proofs.lemmas.List.Sums.{sum_by-cons}

pub none_passes : {X : Type 0} (p : X → Bool) (xs : List X) (k : ℕ) (d : X) → list_any p xs ≡ false → k < length xs → p (get_or xs k d) ≡ false
none_passes p [] k d none h = absurd (omega arith)
none_passes p (x ∷ xs) zero d none h = (or_parts (p x) (list_any p xs) none).0
none_passes p (x ∷ xs) (suc k) d none h = none_passes p xs k d (or_parts (p x) (list_any p xs) none).1 (omega arith)

-- two places of distinct names have different names
pub apart : (names : List (List ℕ)) (j k : ℕ) (d : List ℕ) → IsDistinct bytes_eq names → j ≢ k → j < length names → k < length names → bytes_eq (get_or names k d) (get_or names j d) ≡ false
apart names j k d distinct ne hj hk =
    elim (cases_order j k) [
      | inl e ↦ absurd (ne e)
      | inr o ↦ elim o [
        | inl below ↦ bytes_eq-sym (get_or names k d) (get_or names j d) ∙ apart_from_distinct bytes_eq names j k d distinct below hk
        | inr above ↦ apart_from_distinct bytes_eq names k j d distinct above hj
      ]
    ]

-- the place of a name has this name
pub place_has : (names : List (List ℕ)) (n : List ℕ) (k : ℕ) → position (bytes_eq n) names ≡ Some k → (k < length names) × (n ≡ get_or names k n)
place_has names n k at =
    let found = position-Some (bytes_eq n) names k n at in
    (found.0, (bytes_eq-Decides n (get_or names k n)).0 found.1)

module _ {X : Type 0} where
  pub table_get : (P : List ℕ → X → Type 0) (names : List (List ℕ)) (items : List X) (n : List ℕ) (k : ℕ) (x : X) → IsTable P names items → position (bytes_eq n) names ≡ Some k → (k < length items) × P n (get_or items k x)
  table_get P names items n k x t at =
      let found = place_has names n k at in
      let within : k < length items = omega (arith, t.size, found.0) in
      (within, subst (λ (m : List ℕ). P m (get_or items k x)) (sym found.1) (t.each k n x within))

  set_at_place : (Q : List ℕ → X → Type 0) (names : List (List ℕ)) (items : List X) (n : List ℕ) (k j : ℕ) (x y : X) (m : List ℕ) → j ≡ k → k < length items → k < length names → n ≡ get_or names k n → Q n x → Q (get_or names j m) (get_or (set items k x) j y)
  set_at_place Q names items n k j x y m e h hn named q =
      let here : get_or (set items k x) j y ≡ x = ap (λ i. get_or (set items k x) i y) e ∙ get_or-set_same items k x y h in
      let name : get_or names j m ≡ n = ap (λ i. get_or names i m) e ∙ get_or_default names k m n hn ∙ sym named in
      subst (λ (z : X). Q (get_or names j m) z) (sym here) (subst (λ (w : List ℕ). Q w x) (sym name) q)

  pub table_set : (P Q : List ℕ → X → Type 0) (names : List (List ℕ)) (items : List X) (n : List ℕ) (k : ℕ) (x : X) → IsDistinct bytes_eq names → position (bytes_eq n) names ≡ Some k → IsTable P names items → Q n x → ((m : List ℕ) (y : X) → bytes_eq n m ≡ false → P m y → Q m y) → IsTable Q names (set items k x)
  table_set P Q names items n k x distinct at t here others =
      let found = place_has names n k at in
      let within : k < length items = omega (arith, t.size, found.0) in
      record {
        size = length-set items k x ∙ t.size;
        each = λ j m y h.
            let inside : j < length items = omega (arith, h, length-set items k x) in
            let named : j < length names = omega (arith, inside, t.size) in
            elim (cases_eq j k) [
              | inl e ↦ set_at_place Q names items n k j x y m e within found.0 found.1 here
              | inr ne ↦
                  let differ : bytes_eq n (get_or names j m) ≡ false = ap (λ w. bytes_eq w (get_or names j m)) (found.1 ∙ get_or_default names k n m found.0) ∙ apart names j k m distinct ne named found.0 in
                  subst (λ (z : X). Q (get_or names j m) z) (sym (get_or-set_other items k j x y ne)) (others (get_or names j m) (get_or items j y) differ (t.each j m y inside))
            ];
      }

  pub table_push : (P Q : List ℕ → X → Type 0) (names : List (List ℕ)) (items : List X) (n : List ℕ) (x : X) → is_one_of names n ≡ false → IsTable P names items → Q n x → ((m : List ℕ) (y : X) → bytes_eq n m ≡ false → P m y → Q m y) → IsTable Q (names ++ n ∷ []) (items ++ x ∷ [])
  table_push P Q names items n x absent t here others = record {
    size = length_push items x ∙ ap (λ s. s + 1) t.size ∙ sym (length_push names n);
    each = λ j m y h.
        elim (cases_lt j (length items)) [
          | inl below ↦
              let named : j < length names = omega (arith, below, t.size) in
              let q : Q (get_or names j m) (get_or items j y) = others (get_or names j m) (get_or items j y) (none_passes (bytes_eq n) names j m absent named) (t.each j m y below) in
              subst (λ (z : X). Q (get_or (names ++ n ∷ []) j m) z) (sym (get_or_append_left items (x ∷ []) y j below))
              (subst (λ (w : List ℕ). Q w (get_or items j y)) (sym (get_or_append_left names (n ∷ []) m j named)) q)
          | inr above ↦
              let last : length items ≡ j = omega (arith, above, h, length_push items x) in
              subst (λ (z : X). Q (get_or (names ++ n ∷ []) j m) z) (sym (get_or_push items x y j last))
              (subst (λ (w : List ℕ). Q w x) (sym (get_or_push names n m j (sym t.size ∙ last))) here)
        ];
  }

  pub table_then : (P Q : List ℕ → X → Type 0) (names : List (List ℕ)) (items : List X) → ((m : List ℕ) (y : X) → P m y → Q m y) → IsTable P names items → IsTable Q names items
  table_then P Q names items step t = record { size = t.size; each = λ j m y h. step (get_or names j m) (get_or items j y) (t.each j m y h) }

  pub table_along : (R : X → X → Type 0) (P Q : List ℕ → X → Type 0) (names : List (List ℕ)) (old new : List X) → ((m : List ℕ) (x y : X) → R x y → P m x → Q m y) → IsAlong R old new → IsTable P names old → IsTable Q names new
  table_along R P Q names old new step along t = record {
    size = along.size ∙ t.size;
    each = λ j m y h.
        let inside : j < length old = omega (arith, h, along.size) in
        step (get_or names j m) (get_or old j y) (get_or new j y) (along.each j y inside) (t.each j m y inside);
  }

  -- a write that is related to what it replaces
  pub along_set : (R : X → X → Type 0) (items : List X) (k : ℕ) (x : X) → ((y : X) → R y y) → ((d : X) → R (get_or items k d) x) → IsAlong R items (set items k x)
  along_set R items k x same here = record {
    size = length-set items k x;
    each = λ j d h.
        elim (cases_eq j k) [
          | inl e ↦
              let written : get_or (set items k x) j d ≡ x = ap (λ i. get_or (set items k x) i d) e ∙ get_or-set_same items k x d (omega (arith, h, e)) in
              subst (λ (z : X). R (get_or items j d) z) (sym written) (subst (λ (i : ℕ). R (get_or items i d) x) (sym e) (here d))
          | inr ne ↦ subst (λ (z : X). R (get_or items j d) z) (sym (get_or-set_other items k j x d ne)) (same (get_or items j d))
        ];
  }

  -- what related items share
  pub map_along : {Y : Type 0} (R : X → X → Type 0) (f : X → Y) (old new : List X) → ((x y : X) → R x y → f y ≡ f x) → IsAlong R old new → map f new ≡ map f old
  map_along R f [] [] same along = refl
  map_along R f [] (y ∷ new) same along = let h : length (y ∷ new) ≡ 0 = along.size in absurd (omega (arith, h))
  map_along R f (x ∷ old) [] same along = let h : 0 ≡ length (x ∷ old) = along.size in absurd (omega (arith, h))
  map_along R f (x ∷ old) (y ∷ new) same along =
      let size : length (y ∷ new) ≡ length (x ∷ old) = along.size in
      let rest : IsAlong R old new = record { size = omega (arith, size); each = λ j d h. along.each (suc j) d (omega (arith, h)) } in
      ap (λ z. z ∷ map f new) (same x y (along.each 0 x (omega arith))) ∙ ap (λ r. f x ∷ r) (map_along R f old new same rest)

  pub sums_along : (R : X → X → Type 0) (f : X → ℕ) (old new : List X) → ((x y : X) → R x y → f y ≡ f x) → IsAlong R old new → sum_by f new ≡ sum_by f old
  sums_along R f [] [] same along = refl
  sums_along R f [] (y ∷ new) same along = let h : length (y ∷ new) ≡ 0 = along.size in absurd (omega (arith, h))
  sums_along R f (x ∷ old) [] same along = let h : 0 ≡ length (x ∷ old) = along.size in absurd (omega (arith, h))
  sums_along R f (x ∷ old) (y ∷ new) same along =
      let size : length (y ∷ new) ≡ length (x ∷ old) = along.size in
      let rest : IsAlong R old new = record { size = omega (arith, size); each = λ j d h. along.each (suc j) d (omega (arith, h)) } in
      sum_by-cons f y new ∙ ap (λ n. n + sum_by f new) (same x y (along.each 0 x (omega arith))) ∙ ap (λ n. f x + n) (sums_along R f old new same rest) ∙ sym (sum_by-cons f x old)

  pub along_both : (R : X → X → Type 0) (one two three : List X) → ((x y z : X) → R x y → R y z → R x z) → IsAlong R one two → IsAlong R two three → IsAlong R one three
  along_both R one two three chain a b = record {
    size = b.size ∙ a.size;
    each = λ j d h. chain (get_or one j d) (get_or two j d) (get_or three j d) (a.each j d h) (b.each j d (omega (arith, h, a.size)));
  }
