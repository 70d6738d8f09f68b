-- Names that are numbered, and which of them a name means.
use Rattle.std.proofs.Common.{◌≡◌, ◌∙◌, ap, refl, ℕ, zero, suc, ◌+◌, ◌^◌, ◌<◌, ◌≤◌, inl, inr, Bool, true, false, cond, nat_lt, List, [], ◌∷◌, ◌++◌, length, map, decimal, zero-add, Some, None, is_none, arith}
use Rattle.std.specs.List.{list_any, range_with_len, position_or_len, position}
use Rattle.std.specs.Str.{bytes_eq}
use Rattle.std.proofs.lemmas.Bool.Decides.{nat_tests}
use Rattle.std.proofs.Math.Nat.{eq-or-lt_of_le}
use Rattle.std.proofs.lemmas.List.{map-append, length-map}
use Rattle.std.proofs.lemmas.List.FromFn.{length-range_with_len}
use Rattle.num_text.specs.Words.{is_one_of}
use Rattle.model_gen.proofs.DrawLemmas.{range_more}
use Rattle.mps_reader.proofs.OpeningLemmas.{bytes_eq-refl, bytes_eq-sym, or-true}
use Rattle.made_problems.proofs.NumberTexts.{names_apart, words_apart}
use Rattle.changes_reader.specs.Names.{number_named}

-- a name of a list of numbered names is in it
pub name_in : (name : ℕ → List ℕ) (a n j : ℕ) → a ≤ j → j < a + n → list_any (λ x. bytes_eq x (name j)) (map name (range_with_len a n)) ≡ true
name_in name a zero j h k = absurd (omega arith)
name_in name a (suc n) j h k =
    elim (eq-or-lt_of_le h) [
      | inl same ↦ rw (same, bytes_eq-refl (name j)) refl
      | inr less ↦ rw (name_in name (a + 1) n j (omega arith) (omega arith)) (or-true (bytes_eq (name a) (name j)))
    ]

within_more : {X : Type 0} (p : X → Bool) (x : X) (xs : List X) (b : Bool) → p x ≡ b → (list_any p xs ≡ true → position_or_len p xs < length xs) → list_any p (x ∷ xs) ≡ true → position_or_len p (x ∷ xs) < suc (length xs)
within_more p x xs true e behind h = rw e (omega arith)
within_more p x xs false e behind h = rw e (omega (arith, behind (rw e at h)))

place_within : {X : Type 0} (p : X → Bool) (xs : List X) → list_any p xs ≡ true → position_or_len p xs < length xs
place_within p [] h = absurd (cc)
place_within p (x ∷ xs) h = within_more p x xs (p x) refl (place_within p xs) h

pub is_placed : {X : Type 0} (p : X → Bool) (xs : List X) → list_any p xs ≡ true → is_none (position p xs) ≡ false
is_placed p xs h =
    let within : position_or_len p xs < length xs = place_within p xs h in
    some_place (position_or_len p xs) (length xs) within
  where
    some_place : (i n : ℕ) → i < n → is_none (cond (nat_lt i n) (Some i) None) ≡ false
    some_place i n h = grind (arith, nat_tests)

-- each numbered name means something among them
pub name_known : (names : List (List ℕ)) (name : ℕ → List ℕ) (n j : ℕ) → names ≡ map name (range_with_len 0 n) → j < n → is_none (number_named names (name j)) ≡ false
name_known names name n j e h =
    rw e (is_placed (λ x. bytes_eq x (name j)) (map name (range_with_len 0 n)) (name_in name 0 n j (omega arith) (omega arith)))

-- ---- the first names

abbrev pub names : (ℕ → List ℕ) → ℕ → List (List ℕ)
names name n = map name (range_with_len 0 n)

pub names_more : (name : ℕ → List ℕ) (n : ℕ) → names name (suc n) ≡ names name n ++ name n ∷ []
names_more name n =
    ap (map name) (range_more 0 n) ∙ map-append name (range_with_len 0 n) ((0 + n) ∷ []) ∙ ap (λ k. names name n ++ name k ∷ []) (zero-add n)

pub names_count : (name : ℕ → List ℕ) (n : ℕ) → length (names name n) ≡ n
names_count name n = length-map (range_with_len 0 n) name ∙ length-range_with_len 0 n

-- a number past the first ones names none of them
name_not_in : (b a n j : ℕ) → a + n ≤ j → j < 2 ^ 63 → list_any (λ x. bytes_eq x (b ∷ decimal j)) (map (λ k. b ∷ decimal k) (range_with_len a n)) ≡ false
name_not_in b a zero j h k = refl
name_not_in b a (suc n) j h k =
    rw (names_apart b a j (omega arith) k (λ e. omega arith), name_not_in b (a + 1) n j (omega arith) k) refl

pub name_is_new : (b n j : ℕ) → n ≤ j → j < 2 ^ 63 → list_any (λ x. bytes_eq x (b ∷ decimal j)) (map (λ k. b ∷ decimal k) (range_with_len 0 n)) ≡ false
name_is_new b n j h k = name_not_in b 0 n j (omega arith) k

pub name_is_there : (name : ℕ → List ℕ) (n j : ℕ) → j < n → list_any (λ x. bytes_eq x (name j)) (names name n) ≡ true
name_is_there name n j h = name_in name 0 n j (omega arith) (omega arith)

-- the same with the sides exchanged
swapped : (w : List ℕ) (ws : List (List ℕ)) → is_one_of ws w ≡ list_any (λ x. bytes_eq x w) ws
swapped w [] = refl
swapped w (x ∷ ws) = rw (bytes_eq-sym w x, swapped w ws) refl

pub among_names : (w : List ℕ) (ws : List (List ℕ)) (b : Bool) → list_any (λ x. bytes_eq x w) ws ≡ b → is_one_of ws w ≡ b
among_names w ws b h = swapped w ws ∙ h

-- a word that begins otherwise is none of the names
pub other_word : (b : ℕ) (w : List ℕ) (c : ℕ) (a n : ℕ) → (b ≡ c → ⊥) → list_any (λ x. bytes_eq x (c ∷ w)) (map (λ k. b ∷ decimal k) (range_with_len a n)) ≡ false
other_word b w c a zero apart = refl
other_word b w c a (suc n) apart = rw (words_apart b (decimal a) c w apart, other_word b w c (a + 1) n apart) refl
