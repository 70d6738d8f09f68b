-- The words that numbers make.
use Rattle.std.proofs.Common.{◌≡◌, ◌∙◌, ap, sym, refl, rules, ℕ, ◌^◌, ◌<◌, pos, Bool, true, false, List, [], ◌∷◌, length, arith, Ok, decimal}
use Rattle.std.specs.List.{list_any, list_all}
use Rattle.std.specs.Char.{is_ascii_digit}
use Rattle.std.specs.Str.Parse.{digits_value}
use Rattle.std.proofs.lemmas.Fmt.{digits_decimal, decimal_nonempty, decimal_injective}
use Rattle.std.proofs.lemmas.Str.Parse.{IsNumeralModel, numerals_by_value}
use Rattle.std.proofs.lemmas.Bool.Decides.{nat_tests}
use Rattle.std.proofs.lemmas.Slice.Eq.{bytes_eq-Decides}
use Rattle.std.specs.Str.{bytes_eq}
use Rattle.num_text.specs.Lines.{is_nonempty}
use Rattle.num_text.specs.NumberText.{number_of}
use Rattle.num_text.proofs.NumberLaws.{and_parts}
use Rattle.num_text.proofs.TextLaws.{number_of-integer_text}
use Rattle.made_problems.proofs.LineTexts.{is_word, is_end_of_word}

own : IsNumeralModel (λ ds. list_all is_ascii_digit ds ≡ true) (digits_value 10)
own = numerals_by_value _ (search rules)

digit_in_word : (b : ℕ) → is_ascii_digit b ≡ true → is_end_of_word b ≡ false
digit_in_word b h = grind (arith, nat_tests)

digits_in_word : (text : List ℕ) → list_all is_ascii_digit text ≡ true → list_any is_end_of_word text ≡ false
digits_in_word [] h = refl
digits_in_word (b ∷ text) h =
    let split = and_parts (is_ascii_digit b) (list_all is_ascii_digit text) h in
    rw (digit_in_word b split.0) (digits_in_word text split.1)

some_digit : (text : List ℕ) → 0 < length text → is_nonempty text ≡ true
some_digit [] h = absurd (omega arith)
some_digit (b ∷ text) h = refl

decimal_whole : (n : ℕ) → n < 2 ^ 63 → list_any is_end_of_word (decimal n) ≡ false
decimal_whole n h = digits_in_word (decimal n) (digits_decimal own n (omega arith))

-- a number is a word, and so is a number behind a letter
pub number_word : (n : ℕ) → n < 2 ^ 63 → is_word (decimal n) ≡ true
number_word n h = rw (some_digit (decimal n) (decimal_nonempty n (omega arith)), decimal_whole n h) refl

pub name_word : (b n : ℕ) → is_end_of_word b ≡ false → n < 2 ^ 63 → is_word (b ∷ decimal n) ≡ true
name_word b n h k = rw (h, decimal_whole n k) refl

-- a number is read from its text
pub number_read : (n : ℕ) → n < 2 ^ 63 → number_of (decimal n) ≡ Ok (pos n)
number_read n h = number_of-integer_text (pos n) h

not_equal : (b : Bool) → (b ≡ true → ⊥) → b ≡ false
not_equal true h = absurd (h refl)
not_equal false h = refl

-- names of two numbers are two names
pub names_apart : (b m n : ℕ) → m < 2 ^ 63 → n < 2 ^ 63 → (m ≡ n → ⊥) → bytes_eq (b ∷ decimal m) (b ∷ decimal n) ≡ false
names_apart b m n h k apart = not_equal (bytes_eq (b ∷ decimal m) (b ∷ decimal n)) (λ e.
    let same : b ∷ decimal m ≡ b ∷ decimal n = (bytes_eq-Decides (b ∷ decimal m) (b ∷ decimal n)).0 e in
    let numbers : decimal m ≡ decimal n = cc in
    apart (decimal_injective m n (omega arith) (omega arith) numbers))

-- a number's text is no text with another byte than digits
pub number_is_none_of : (n : ℕ) → n < 2 ^ 63 → (word : List ℕ) → list_all is_ascii_digit word ≡ false → bytes_eq (decimal n) word ≡ false
number_is_none_of n h word other = not_equal (bytes_eq (decimal n) word) (λ e.
    let same : decimal n ≡ word = (bytes_eq-Decides (decimal n) word).0 e in
    let digits : list_all is_ascii_digit word ≡ true = ap (list_all is_ascii_digit) (sym same) ∙ digits_decimal own n (omega arith) in
    let wrong : true ≡ false = sym digits ∙ other in
    absurd (cc))

-- words that begin with two bytes
pub words_apart : (b : ℕ) (v : List ℕ) (c : ℕ) (w : List ℕ) → (b ≡ c → ⊥) → bytes_eq (b ∷ v) (c ∷ w) ≡ false
words_apart b v c w apart = not_equal (bytes_eq (b ∷ v) (c ∷ w)) (λ e.
    let same : b ∷ v ≡ c ∷ w = (bytes_eq-Decides (b ∷ v) (c ∷ w)).0 e in
    let first : b ≡ c = cc in
    apart first)
