-- Decimal number texts.
use Rattle.std.specs.Prelude.{◌≡◌, ◌<◌, unsigned_abs, true, ℕ, zero, suc, ◌+◌, ◌-◌, ◌*◌, ◌^◌, ◌/◌, ◌%◌, ℤ, pos, negsuc, neg_ℤ, ◌-ℤ◌, Bool, false, not, ◌&&◌, ◌||◌, nat_eq, nat_lt, if◌then◌else◌, List, [], ◌∷◌, ◌++◌, length, fold, codes, bytes_eq, Option, Some, None, Result, Ok, Err}
use Rattle.std.specs.List.{list_all, before_first, after_first, list_any}
use Rattle.std.specs.Char.{is_ascii_digit}
use Rattle.std.specs.Fmt.{signed_decimal}
use Rattle.num_text.specs.Lines.{is_nonempty}
use Rattle.num_text.specs.declared.number.NumberError.{NumberError}
use Rattle.num_text.specs.declared.number.NumberError.TheVariants.{NotNumber, Fraction, TooWide}

-- digits, times ten to the power shift, perhaps below 0
pub record Decimal : Type 0 where
  pub negative : Bool
  pub digits : ℕ
  pub shift : ℤ

-- the number that a run of digits spells behind those that spell n
abbrev pub digits_after : ℕ → List ℕ → ℕ
digits_after n text = fold (λ n b. 10 * n + (b - 48)) n text

abbrev pub digits_number : List ℕ → ℕ
digits_number text = digits_after 0 text

-- whether a text begins with a minus, and the text behind its sign
abbrev pub begins_with_minus : List ℕ → Bool
begins_with_minus [] = false
begins_with_minus (b ∷ text) = nat_eq b 45

abbrev pub behind_sign : List ℕ → List ℕ
behind_sign [] = []
behind_sign (b ∷ text) = if nat_eq b 43 || nat_eq b 45 then text else b ∷ text

abbrev pub with_sign : Bool → ℕ → ℤ
with_sign negative n = if negative then neg_ℤ (pos n) else pos n

abbrev pub is_point : ℕ → Bool
is_point b = nat_eq b 46

abbrev pub is_exponent_mark : ℕ → Bool
is_exponent_mark b = nat_eq b 101 || nat_eq b 69

-- one digit or more
abbrev pub is_digits : List ℕ → Bool
is_digits text = is_nonempty text && list_all is_ascii_digit text

-- what stands behind the exponent's mark, where there is one
abbrev pub exponent_text : List ℕ → Option (List ℕ)
exponent_text text = if list_any is_exponent_mark text then Some (after_first is_exponent_mark text) else None

-- what an exponent adds: an optional sign and digits, or nothing where there is no exponent
abbrev pub exponent_of : Option (List ℕ) → Option ℤ
exponent_of None = Some (pos 0)
exponent_of (Some text) = if is_digits (behind_sign text) then Some (with_sign (begins_with_minus text) (digits_number (behind_sign text))) else None

-- digits with at most one point: those before it and those behind it
abbrev pub decimal_of : Bool → List ℕ → List ℕ → Option ℤ → Option Decimal
decimal_of negative whole behind None = None
decimal_of negative whole behind (Some exponent) =
    if is_digits (whole ++ behind) then Some (record { negative = negative; digits = digits_number (whole ++ behind); shift = exponent -ℤ pos (length behind) }) else None

-- the parts of a number text, None where it is none
abbrev pub parsed : List ℕ → Option Decimal
parsed text =
    let mantissa = before_first is_exponent_mark (behind_sign text)
    in decimal_of (begins_with_minus text) (before_first is_point mantissa) (after_first is_point mantissa) (exponent_of (exponent_text (behind_sign text)))

abbrev pub fitting : Bool → ℕ → Result ℤ NumberError
fitting negative n = if nat_lt n (2 ^ 63) then Ok (with_sign negative n) else Err TooWide

-- n before the point and another number past it
abbrev pub unless_fraction : Bool → ℕ → ℕ → Result ℤ NumberError
unless_fraction negative n past = if nat_eq past 0 then fitting negative n else Err Fraction

-- the whole number, where it is one
abbrev pub whole_of : Bool → ℕ → ℤ → Result ℤ NumberError
whole_of negative zero shift = Ok (pos 0)
whole_of negative (suc n) (pos k) = fitting negative (suc n * 10 ^ k)
whole_of negative (suc n) (negsuc k) = unless_fraction negative (suc n / 10 ^ suc k) (suc n % 10 ^ suc k)

abbrev pub number_or : Option Decimal → Result ℤ NumberError
number_or None = Err NotNumber
number_or (Some d) = whole_of d.negative d.digits d.shift

-- the value of a number text
abbrev pub number_of : List ℕ → Result ℤ NumberError
number_of text = number_or (parsed text)

-- one digit, or more that don't begin with 0
abbrev pub is_canonical_digits : List ℕ → Bool
is_canonical_digits [] = false
is_canonical_digits (b ∷ []) = is_ascii_digit b
is_canonical_digits (b ∷ c ∷ text) = not (nat_eq b 48) && list_all is_ascii_digit (b ∷ c ∷ text)

-- a minus or none and such digits, and no minus before 0
abbrev pub is_canonical : List ℕ → Bool
is_canonical [] = false
is_canonical (b ∷ text) = if nat_eq b 45 then is_canonical_digits text && not (bytes_eq text (codes "0")) else is_canonical_digits (b ∷ text)

-- the decimal text of a whole number
abbrev pub integer_text : ℤ → List ℕ
integer_text z = signed_decimal z

-- text is canonical and is read as z where z lies in the range, and no other canonical text is
pub record IsDecimalTextOf (z : ℤ) (text : List ℕ) : Type 0 where
  pub canonical : is_canonical text ≡ true
  pub meaning : unsigned_abs z < 2 ^ 63 → number_of text ≡ Ok z
  pub only : (other : List ℕ) → is_canonical other ≡ true → number_of other ≡ Ok z → other ≡ text
