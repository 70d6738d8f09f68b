-- Decimal texts and their values.
use Rattle.std.proofs.Common.{◌≡◌, ◌∙◌, ap, sym, ℕ, zero, suc, ◌+◌, ◌-◌, ◌^◌, ◌<◌, ℤ, pos, negsuc, Bool, true, false, not, List, [], ◌∷◌, ◌++◌, length, drop, get_or, Some, Result, Ok, Err, refl, arith, rules, inl, inr, nat_eq, unsigned_abs}
use Rattle.std.specs.List.{list_all, list_any, position_or_len, before_first, after_first}
use Rattle.std.specs.Char.{is_ascii_digit}
use Rattle.std.specs.Fmt.{decimal}
use Rattle.std.specs.Str.{bytes_eq}
use Rattle.std.specs.Prelude.{codes}
use Rattle.std.proofs.lemmas.Bool.{cases_lt}
use Rattle.std.proofs.lemmas.Bool.Decides.{nat_tests, eqb_tells}
use Rattle.std.proofs.lemmas.Fmt.{digits_decimal, digits_value-decimal, decimal_nonempty, first_decimal, decimal-digits_value, decimal_digit}
use Rattle.std.proofs.lemmas.List.{take_all, drop_all, drop_at, append-nil}
use Rattle.std.proofs.lemmas.Slice.Eq.{bytes_eq-Decides}
use Rattle.std.proofs.lemmas.Str.Parse.{IsNumeralModel, IsDigitsTest, FoldsDigits, numerals_by_fold}
use Rattle.std.proofs.Math.Nat.{mul_comm, mul-one}
use Rattle.num_text.specs.NumberText.{digits_after, digits_number, begins_with_minus, behind_sign, with_sign, is_digits, is_point, is_exponent_mark, decimal_of, exponent_of, exponent_text, fitting, number_or, number_of, integer_text, is_canonical, is_canonical_digits, IsDecimalTextOf}
use Rattle.num_text.specs.Lines.{is_nonempty}
use Rattle.num_text.proofs.PartLaws.{number_of-parts}
use Rattle.num_text.specs.declared.number.NumberError.{NumberError}
use Rattle.num_text.specs.declared.number.NumberError.TheVariants.{TooWide}
use Rattle.num_text.proofs.NumberLaws.{and_parts, too_wide, whole_of-pos}

abbrev IsAllDigits : List ℕ → Type 0
IsAllDigits text = list_all is_ascii_digit text ≡ true

-- std's lemmas on numerals speak of our digits
own : IsNumeralModel IsAllDigits (digits_after 0)
own = numerals_by_fold IsAllDigits own_digits digits_after own_fold
  where
    own_digits : IsDigitsTest IsAllDigits
    own_digits = search rules

    own_fold : FoldsDigits digits_after
    own_fold = record { empty = λ n. refl; more = λ n c cs h. ap (λ m. digits_after (m + (c - 48)) cs) (mul_comm 10 n) }

-- no digit passes p
module _ (p : ℕ → Bool) (no_digit : (b : ℕ) → is_ascii_digit b ≡ true → p b ≡ false) where
  none_passes : (text : List ℕ) → IsAllDigits text → (list_any p text ≡ false) × (position_or_len p text ≡ length text)
  none_passes [] h = (refl, refl)
  none_passes (b ∷ text) h =
      let split = and_parts (is_ascii_digit b) (list_all is_ascii_digit text) h in
      let rest = none_passes text split.1 in
      (rw (no_digit b split.0) rest.0, rw (no_digit b split.0) (rw rest.1 (omega arith)))

-- digits are no exponent marks
no_mark : (b : ℕ) → is_ascii_digit b ≡ true → is_exponent_mark b ≡ false
no_mark b h = grind (arith, nat_tests)

-- digits are no points
no_point : (b : ℕ) → is_ascii_digit b ≡ true → is_point b ≡ false
no_point b h = grind (arith, nat_tests)

-- digits behind a sign or none, with no point and no exponent
plain_parts : (negative : Bool) (digits : List ℕ) → is_digits digits ≡ true → number_or (decimal_of negative (before_first is_point digits) (after_first is_point digits) (Some (pos 0))) ≡ fitting negative (digits_number digits)
plain_parts negative digits h =
    let all = (and_parts (is_nonempty digits) (list_all is_ascii_digit digits) h).1 in
    let ends : position_or_len is_point digits ≡ length digits = (none_passes is_point no_point digits all).1 in
    let whole : before_first is_point digits ≡ digits = rw ends (take_all (length digits) digits (omega arith)) in
    let behind : after_first is_point digits ≡ [] = rw ends (drop_all (length digits + 1) digits (omega arith)) in
    rw (whole, behind, append-nil digits, h) (whole_of-pos negative (digits_number digits) 0 ∙ ap (fitting negative) (mul-one (digits_number digits)))

pub number_of-digits : (text digits : List ℕ) → behind_sign text ≡ digits → is_digits digits ≡ true → number_of text ≡ fitting (begins_with_minus text) (digits_number digits)
number_of-digits text digits e h =
    let all = (and_parts (is_nonempty digits) (list_all is_ascii_digit digits) h).1 in
    let none = none_passes is_exponent_mark no_mark digits all in
    let mantissa : before_first is_exponent_mark digits ≡ digits = rw none.1 (take_all (length digits) digits (omega arith)) in
    let exponent : exponent_of (exponent_text digits) ≡ Some (pos 0) = rw none.0 refl in
    number_of-parts text (before_first is_point digits) (after_first is_point digits) (Some (pos 0)) (rw (e, mantissa) refl) (rw (e, mantissa) refl) (rw e (sym exponent))
    ∙ plain_parts (begins_with_minus text) digits h

-- ---- the decimal text of a number

-- below 2^63 the number fits
fits : (negative : Bool) (n : ℕ) → n < 2 ^ 63 → fitting negative n ≡ Ok (with_sign negative n)
fits negative n h = grind (arith, nat_tests)

-- what fits is below 2^63
fitted : (negative : Bool) (n : ℕ) (z : ℤ) → fitting negative n ≡ Ok z → (n < 2 ^ 63) × (z ≡ with_sign negative n)
fitted negative n z e =
    elim (cases_lt n (2 ^ 63)) [
      | inl less ↦
          let same : ◌≡◌ {A = Result ℤ NumberError} (Ok (with_sign negative n)) (Ok z) = sym (fits negative n less) ∙ e in
          (less, cc)
      | inr more ↦
          let wrong : ◌≡◌ {A = Result ℤ NumberError} (Err TooWide) (Ok z) = sym (too_wide negative n more) ∙ e in
          absurd (cc)
    ]

-- a run of digits with one at least
some_digits : (text : List ℕ) → IsAllDigits text → 0 < length text → is_digits text ≡ true
some_digits [] h some = absurd (omega arith)
some_digits (b ∷ text) h some = h

-- digits are no signs
no_sign : (b : ℕ) → is_ascii_digit b ≡ true → (nat_eq b 43 ≡ false) × (nat_eq b 45 ≡ false)
no_sign b h = (grind (arith, nat_tests), grind (arith, nat_tests))

-- digits have no sign
unsigned : (text : List ℕ) → is_digits text ≡ true → (behind_sign text ≡ text) × (begins_with_minus text ≡ false)
unsigned [] h = absurd (cc)
unsigned (b ∷ text) h =
    let none = no_sign b (and_parts (is_ascii_digit b) (list_all is_ascii_digit text) h).0 in
    (rw (none.0, none.1) refl, none.1)

-- digits are read as their number
read_digits : (text : List ℕ) → is_digits text ≡ true → number_of text ≡ fitting false (digits_number text)
read_digits text h = number_of-digits text text (unsigned text h).0 h ∙ ap (λ t. fitting t (digits_number text)) (unsigned text h).1

-- digits behind a minus are read as the negative number
read_minus : (text : List ℕ) → is_digits text ≡ true → number_of (45 ∷ text) ≡ fitting true (digits_number text)
read_minus text h = number_of-digits (45 ∷ text) text refl h

-- a decimal text is digits
decimal_digits : (n : ℕ) → n < 2 ^ 64 → is_digits (decimal n) ≡ true
decimal_digits n h = some_digits (decimal n) (digits_decimal own n h) (decimal_nonempty n h)

-- what is written is read again
pub number_of-integer_text : (z : ℤ) → unsigned_abs z < 2 ^ 63 → number_of (integer_text z) ≡ Ok z
number_of-integer_text (pos n) h =
    read_digits (decimal n) (decimal_digits n (omega arith)) ∙ ap (fitting false) (digits_value-decimal own n (omega arith)) ∙ fits false n h
number_of-integer_text (negsuc n) h =
    read_minus (decimal (suc n)) (decimal_digits (suc n) (omega arith)) ∙ ap (fitting true) (digits_value-decimal own (suc n) (omega arith)) ∙ fits true (suc n) h

record IsPlain (text : List ℕ) : Type 0 where
  digits : IsAllDigits text
  some : 0 < length text
  first : get_or text 0 0 ≡ 48 → length text ≡ 1

-- canonical digits have no leading zero
canonical_plain : (text : List ℕ) → is_canonical_digits text ≡ true → IsPlain text
canonical_plain [] h = absurd (cc)
canonical_plain (b ∷ []) h = record { digits = rw h refl; some = omega arith; first = λ e. refl }
canonical_plain (b ∷ c ∷ text) h =
    let split = and_parts (not (nat_eq b 48)) (list_all is_ascii_digit (b ∷ c ∷ text)) h in
    record { digits = split.1; some = omega arith; first = λ e. absurd (zero_first b e split.0) }
  where
    zero_first : (b : ℕ) → b ≡ 48 → not (nat_eq b 48) ≡ true → ⊥
    zero_first b e h = grind (arith, nat_tests)

-- digits with no leading zero are canonical
plain_canonical : (text : List ℕ) → IsPlain text → is_canonical_digits text ≡ true
plain_canonical [] h = absurd (omega (arith, h.some))
plain_canonical (b ∷ []) h = (and_parts (is_ascii_digit b) true h.digits).0
plain_canonical (b ∷ c ∷ text) h =
    elim (eqb_tells b 48) [
      | inl same ↦ absurd (omega (arith, h.first same.1))
      | inr other ↦ rw other.0 h.digits
    ]

-- a decimal text has no leading zero
decimal_plain : (n : ℕ) → n < 2 ^ 64 → IsPlain (decimal n)
decimal_plain zero h = rw (decimal_digit 0 (omega arith)) (record { digits = refl; some = omega arith; first = λ e. refl })
decimal_plain (suc n) h = record {
  digits = digits_decimal own (suc n) h;
  some = decimal_nonempty (suc n) h;
  first = λ e. absurd (omega (arith, first_decimal (suc n) (omega arith) h));
}

-- digits with no minus
canonical_digits : (text : List ℕ) → is_digits text ≡ true → is_canonical text ≡ is_canonical_digits text
canonical_digits [] h = refl
canonical_digits (b ∷ text) h = rw (no_sign b (and_parts (is_ascii_digit b) (list_all is_ascii_digit text) h).0).1 refl

not_true : (b : Bool) → (b ≡ true → ⊥) → b ≡ false
not_true true h = absurd (h refl)
not_true false h = refl

-- a text that begins above 0 is not 0
no_zero : (text : List ℕ) → 48 < get_or text 0 0 → bytes_eq text (codes "0") ≡ false
no_zero text h = not_true (bytes_eq text (codes "0")) (λ e.
    let is : text ≡ 48 ∷ [] = (bytes_eq-Decides text (codes "0")).0 e in
    absurd (omega (arith, ap (λ l. get_or l 0 0) is)))

-- what is written is canonical
is_canonical-integer_text : (z : ℤ) → unsigned_abs z < 2 ^ 64 → is_canonical (integer_text z) ≡ true
is_canonical-integer_text (pos n) h = canonical_digits (decimal n) (decimal_digits n h) ∙ plain_canonical (decimal n) (decimal_plain n h)
is_canonical-integer_text (negsuc n) h = rw (plain_canonical (decimal (suc n)) (decimal_plain (suc n) h), no_zero (decimal (suc n)) (first_decimal (suc n) (omega arith) h)) refl

-- the text of the number of digits with no leading zero
decimal-number : (text : List ℕ) → IsPlain text → digits_number text < 2 ^ 63 → decimal (digits_number text) ≡ text
decimal-number text h less = decimal-digits_value own text h.digits h.some h.first (omega arith)

-- the text of a negative number
minus_only : (text : List ℕ) (n : ℕ) (z : ℤ) → decimal n ≡ text → not (bytes_eq text (codes "0")) ≡ true → z ≡ with_sign true n → 45 ∷ text ≡ integer_text z
minus_only text zero z is some e =
    let zero_text : text ≡ 48 ∷ [] = sym is ∙ decimal_digit 0 (omega arith) in
    let wrong : false ≡ true = rw zero_text at some in
    absurd (cc)
minus_only text (suc n) z is some e = rw (e, is) refl

-- no other canonical text means the number
only_text : (z : ℤ) (other : List ℕ) → is_canonical other ≡ true → number_of other ≡ Ok z → other ≡ integer_text z
only_text z [] h e = absurd (cc)
only_text z (b ∷ text) h e =
    elim (eqb_tells b 45) [
      | inl minus ↦
          let split = and_parts (is_canonical_digits text) (not (bytes_eq text (codes "0"))) (rw minus.0 at h) in
          let plain = canonical_plain text split.0 in
          let value = fitted true (digits_number text) z (sym (read_minus text (some_digits text plain.digits plain.some)) ∙ ap (λ c. number_of (c ∷ text)) (sym minus.1) ∙ e) in
          ap (λ c. c ∷ text) minus.1 ∙ minus_only text (digits_number text) z (decimal-number text plain value.0) split.1 value.1
      | inr none ↦
          let plain = canonical_plain (b ∷ text) (rw none.0 at h) in
          let value = fitted false (digits_number (b ∷ text)) z (sym (read_digits (b ∷ text) (some_digits (b ∷ text) plain.digits plain.some)) ∙ e) in
          rw value.1 (sym (decimal-number (b ∷ text) plain value.0))
    ]

-- the decimal text of a number is its one canonical text
pub decimal_text : (z : ℤ) → unsigned_abs z < 2 ^ 64 → IsDecimalTextOf z (integer_text z)
decimal_text z h = record {
  canonical = is_canonical-integer_text z h;
  meaning = number_of-integer_text z;
  only = only_text z;
}

-- what stands behind the old list once the text is appended
pub appended_text : (z : ℤ) (old new : List ℕ) → unsigned_abs z < 2 ^ 64 → new ≡ old ++ integer_text z → IsDecimalTextOf z (drop (length old) new)
appended_text z old new h e =
    let text : drop (length old) new ≡ integer_text z = ap (drop (length old)) e ∙ drop_at old (integer_text z) (length old) refl in
    rw text (decimal_text z h)
