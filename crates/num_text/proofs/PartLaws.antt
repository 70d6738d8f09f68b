-- The parts of a number text.
use Rattle.std.proofs.Common.{◌≡◌, ◌∙◌, sym, ℕ, suc, ◌+◌, ◌<◌, ◌≤◌, ℤ, Bool, cond, true, false, not, ◌&&◌, ◌||◌, List, [], ◌∷◌, ◌++◌, length, drop, Option, Some, None, refl, arith, nat_lt}
use Rattle.std.specs.List.{list_all, list_any, position, position_or_len, before_first, after_first}
use Rattle.std.specs.Char.{is_ascii_digit}
use Rattle.std.proofs.lemmas.Bool.Decides.{nat_tests}
use Rattle.num_text.specs.NumberText.{is_digits, is_point, is_exponent_mark, exponent_text, exponent_of, behind_sign, begins_with_minus, decimal_of, number_or, number_of}

-- a test of two runs
list_all-append : (p : ℕ → Bool) (xs ys : List ℕ) → list_all p (xs ++ ys) ≡ (list_all p xs && list_all p ys)
list_all-append p [] ys = refl
list_all-append p (x ∷ xs) ys = elim (p x) as (λ t. (t && list_all p (xs ++ ys)) ≡ ((t && list_all p xs) && list_all p ys)) [ true ↦ list_all-append p xs ys | false ↦ refl ]

-- digits in two runs, where the first has some
pub is_digits-append : (front back : List ℕ) → 0 < length front → is_digits (front ++ back) ≡ (list_all is_ascii_digit front && list_all is_ascii_digit back)
is_digits-append [] back h = absurd (omega arith)
is_digits-append (b ∷ front) back h = list_all-append is_ascii_digit (b ∷ front) back

-- digits in two runs, where the first is empty
pub is_digits-none : (front back : List ℕ) → length front ≤ 0 → is_digits (front ++ back) ≡ is_digits back
is_digits-none [] back h = refl
is_digits-none (b ∷ front) back h = absurd (omega arith)

-- some element passes where the first one that does has a place
position-list_any : (p : ℕ → Bool) (xs : List ℕ) → nat_lt (position_or_len p xs) (length xs) ≡ list_any p xs
position-list_any p [] = refl
position-list_any p (x ∷ xs) =
    elim (p x) as (λ t. nat_lt (cond (not t) (1 + position_or_len p xs) 0) (suc (length xs)) ≡ (t || list_any p xs)) [
      | true ↦ grind (arith, nat_tests)
      | false ↦ one_more (position_or_len p xs) (length xs) ∙ position-list_any p xs
    ]
  where
    one_more : (m n : ℕ) → nat_lt (1 + m) (suc n) ≡ nat_lt m n
    one_more m n = grind (arith, nat_tests)

found : (t : Bool) (n place : ℕ) → cond t (Some n) None ≡ Some place → (t ≡ true) × (n ≡ place)
found true n place e = (refl, cc)
found false n place e = absurd (cc)

missed : (t : Bool) (n : ℕ) → cond t (Some n) None ≡ None → t ≡ false
missed true n e = absurd (cc)
missed false n e = refl

-- the exponent stands behind the first mark
pub exponent_text-Some : (bytes : List ℕ) (place : ℕ) → position is_exponent_mark bytes ≡ Some place → exponent_text bytes ≡ Some (drop (place + 1) bytes)
exponent_text-Some bytes place e =
    let at = found (nat_lt (position_or_len is_exponent_mark bytes) (length bytes)) (position_or_len is_exponent_mark bytes) place e in
    rw (sym (position-list_any is_exponent_mark bytes) ∙ at.0, at.1) refl

-- no mark, no exponent
pub exponent_text-None : (bytes : List ℕ) → position is_exponent_mark bytes ≡ None → exponent_text bytes ≡ None
exponent_text-None bytes e =
    rw (sym (position-list_any is_exponent_mark bytes) ∙ missed (nat_lt (position_or_len is_exponent_mark bytes) (length bytes)) (position_or_len is_exponent_mark bytes) e) refl

-- the value of a text from its parts
pub number_of-parts : (text whole behind : List ℕ) (exponent : Option ℤ) → whole ≡ before_first is_point (before_first is_exponent_mark (behind_sign text)) → behind ≡ after_first is_point (before_first is_exponent_mark (behind_sign text)) → exponent ≡ exponent_of (exponent_text (behind_sign text)) → number_of text ≡ number_or (decimal_of (begins_with_minus text) whole behind exponent)
number_of-parts text whole behind exponent w b e = rw (w, b, e) refl
