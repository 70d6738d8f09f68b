-- Words of digits, and what `parse` makes of them.
use Rattle.std.proofs.Common.{◌≡◌, rules, ℕ, ◌^◌, ◌<◌, ◌≤◌, true, false, List, [], ◌∷◌, length, Some, None, Ok, Err, arith}
use Rattle.std.specs.List.{list_all}
use Rattle.std.specs.Char.{is_ascii_digit}
use Rattle.std.specs.Str.Parse.{ParsesUnsigned}
use Rattle.std.proofs.lemmas.Str.Parse.{IsNumeralModel, numerals_by_fold, parse_digits}
use Rattle.std.proofs.lemmas.Bool.Decides.{nat_tests}
use Rattle.num_text.specs.NumberText.{digits_after, digits_number}
use Rattle.command_line.specs.Words.{is_number, number_in}

own : IsNumeralModel (λ ds. list_all is_ascii_digit ds ≡ true) (digits_after 0)
own = numerals_by_fold _ (search rules) digits_after (search rules)

digits_of_number : (word : List ℕ) → is_number word ≡ true → (list_all is_ascii_digit word ≡ true) × (0 < length word)
digits_of_number [] h = cc
digits_of_number (b ∷ word) h = grind arith

pub in_range : (least greatest number : ℕ) (word : List ℕ) → is_number word ≡ true → number ≡ digits_number word → least ≤ number → number ≤ greatest → Some number ≡ number_in least greatest word
in_range least greatest number word h e low high = grind (arith, nat_tests)

pub below_range : (least greatest : ℕ) (word : List ℕ) → digits_number word < least → None ≡ number_in least greatest word
below_range least greatest word low = grind (arith, nat_tests)

pub above_range : (least greatest : ℕ) (word : List ℕ) → greatest < digits_number word → None ≡ number_in least greatest word
above_range least greatest word high = grind (arith, nat_tests)

pub no_number : (least greatest : ℕ) (word : List ℕ) → is_number word ≡ false → None ≡ number_in least greatest word
no_number least greatest word h = grind (arith, nat_tests)

pub parsed_value : (word : List ℕ) (number : ℕ) → is_number word ≡ true → ParsesUnsigned {E = ℕ} 64 10 word (Ok number) → number ≡ digits_number word
parsed_value word number h p =
    let d = digits_of_number word h in
    (parse_digits own {E = ℕ} 64 word (Ok number) p d.0).1

pub parsed_wide : (word : List ℕ) → is_number word ≡ true → ParsesUnsigned {E = ℕ} 64 10 word (Err 0) → 2 ^ 64 ≤ digits_number word
parsed_wide word h p =
    let d = digits_of_number word h in
    let wide : (0 < length word) × (digits_number word < 2 ^ 64) → ⊥ = parse_digits own {E = ℕ} 64 word (Err 0) p d.0 in
    let far : digits_number word < 2 ^ 64 → ⊥ = λ near. wide (d.1, near) in
    omega (arith, far)
