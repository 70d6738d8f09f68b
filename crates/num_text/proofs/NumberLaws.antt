-- Digits and the numbers that they spell.
use Rattle.std.proofs.Common.{◌≡◌, ◌∙◌, ap, sym, ℕ, zero, suc, ◌+◌, ◌-◌, ◌*◌, ◌^◌, ◌<◌, ◌≤◌, pos, neg_ℤ, Bool, true, false, List, [], ◌∷◌, ◌++◌, length, refl, arith, inl, inr, lit<, zero-add, drop, get_or, ◌&&◌, Err}
use Rattle.std.specs.List.{list_all}
use Rattle.std.specs.Char.{is_ascii_digit}
use Rattle.std.proofs.lemmas.Bool.Decides.{nat_tests}
use Rattle.std.proofs.lemmas.Bool.{cases_lt}
use Rattle.std.proofs.lemmas.List.{drop_more}
use Rattle.num_text.specs.Held.{held}
use Rattle.std.proofs.lemmas.Nat.{div-mul-add, mod-mul-add, mul-le}
use Rattle.std.proofs.Math.Nat.{pow-succ', mul_comm, mul_assoc, mul-one, zero-mul, add-mul, min-eq_left}
use Rattle.num_text.specs.NumberText.{digits_after, digits_number, fitting, unless_fraction, whole_of}
use Rattle.num_text.specs.declared.number.NumberError.TheVariants.{Fraction, TooWide}

-- digits in two runs are read one after the other
pub digits_after-append : (n : ℕ) (xs ys : List ℕ) → digits_after n (xs ++ ys) ≡ digits_after (digits_after n xs) ys
digits_after-append n [] ys = refl
digits_after-append n (x ∷ xs) ys = digits_after-append (10 * n + (x - 48)) xs ys

-- a number only grows with its digits
pub digits_after-ge : (n : ℕ) (xs : List ℕ) → n ≤ digits_after n xs
digits_after-ge n [] = omega arith
digits_after-ge n (x ∷ xs) = omega (arith, digits_after-ge (10 * n + (x - 48)) xs)

-- the first digit alone gives its own value
digits_number-cons : (x : ℕ) (xs : List ℕ) → digits_number (x ∷ xs) ≡ digits_after (x - 48) xs
digits_number-cons x xs = ap (λ n. digits_after n xs) (zero-add (x - 48))

-- what stands before moves to the left by a place for each digit
pub digits_after_is : (n : ℕ) (xs : List ℕ) → digits_after n xs ≡ n * 10 ^ length xs + digits_number xs
digits_after_is n [] = omega (arith, mul-one n)
digits_after_is n (x ∷ xs) =
    let here : digits_after (10 * n + (x - 48)) xs ≡ (10 * n + (x - 48)) * 10 ^ length xs + digits_number xs = digits_after_is (10 * n + (x - 48)) xs in
    let first : digits_after (x - 48) xs ≡ (x - 48) * 10 ^ length xs + digits_number xs = digits_after_is (x - 48) xs in
    let power : n * 10 ^ suc (length xs) ≡ 10 * n * 10 ^ length xs = rw pow-succ' (sym (mul_assoc n 10 (10 ^ length xs)) ∙ ap (λ m. m * 10 ^ length xs) (mul_comm n 10)) in
    here ∙ rw (power, add-mul) (omega (arith, first, digits_number-cons x xs))

-- two runs of digits as one
pub digits_number-append : (xs ys : List ℕ) → digits_number (xs ++ ys) ≡ digits_number xs * 10 ^ length ys + digits_number ys
digits_number-append xs ys = digits_after-append 0 xs ys ∙ digits_after_is (digits_number xs) ys

pub and_parts : (a b : Bool) → (a && b) ≡ true → (a ≡ true) × (b ≡ true)
and_parts true b h = (refl, h)
and_parts false b h = absurd (cc)

-- the value of a digit
digit-le : (x : ℕ) → is_ascii_digit x ≡ true → x - 48 ≤ 9
digit-le x h = grind (arith, nat_tests)

-- so many digits spell less than that power of ten
pub digits_number-lt : (xs : List ℕ) → list_all is_ascii_digit xs ≡ true → digits_number xs < 10 ^ length xs
digits_number-lt [] h = lit< tt
digits_number-lt (x ∷ xs) h =
    let split : (is_ascii_digit x ≡ true) × (list_all is_ascii_digit xs ≡ true) = and_parts (is_ascii_digit x) (list_all is_ascii_digit xs) h in
    let rest : digits_number xs < 10 ^ length xs = digits_number-lt xs split.1 in
    let digit : x - 48 ≤ 9 = digit-le x split.0 in
    let product : (x - 48) * 10 ^ length xs ≤ 9 * 10 ^ length xs = mul-le (x - 48) (10 ^ length xs) 9 (10 ^ length xs) digit (omega arith) in
    omega (arith, digits_after_is (x - 48) xs, digits_number-cons x xs, pow-succ' 10 (length xs))

-- held at the greatest number of 64 bits
pub held_after : (n : ℕ) (xs : List ℕ) → held (digits_after (held n) xs) ≡ held (digits_after n xs)
held_after n xs =
    elim (cases_lt (2 ^ 64 - 1) n) [
      | inl above ↦ omega (arith, digits_after-ge n xs, digits_after-ge (held n) xs)
      | inr within ↦ ap (λ m. held (digits_after m xs)) (omega arith)
    ]

-- one digit more
pub held_more : (start number next : ℕ) (digits : List ℕ) (i : ℕ) → i < length digits → held (digits_after start digits) ≡ held (digits_after number (drop i digits)) → next ≡ held (held (number * 10) + (get_or digits i 0 - 48)) → held (digits_after start digits) ≡ held (digits_after next (drop (i + 1) digits))
held_more start number next digits i h before is =
    let step : held (10 * number + (get_or digits i 0 - 48)) ≡ next = omega arith in
    before ∙ rw (drop_more digits i 0 h) (sym (held_after (10 * number + (get_or digits i 0 - 48)) (drop (i + 1) digits)) ∙ ap (λ n. held (digits_after n (drop (i + 1) digits))) step)

-- from 2^63 on nothing fits
pub too_wide : (negative : Bool) (n : ℕ) → 2 ^ 63 ≤ n → fitting negative n ≡ Err TooWide
too_wide negative n h = grind (arith, nat_tests)

-- what is held fits where the number does
pub held_fitting : (negative : Bool) (n : ℕ) → fitting negative (held n) ≡ fitting negative n
held_fitting negative n =
    elim (cases_lt (2 ^ 64 - 1) n) [
      | inl above ↦ too_wide negative (held n) (omega arith) ∙ sym (too_wide negative n (omega arith))
      | inr within ↦ ap (fitting negative) (omega arith)
    ]

-- the same where neither factor is 0
nonzero : (negative : Bool) (n m : ℕ) → 0 < n → 0 < m → fitting negative (held (held n * held m)) ≡ fitting negative (n * m)
nonzero negative n m some more =
    let left : n * 1 ≤ n * m = mul-le n 1 n m (omega arith) more in
    let right : 1 * m ≤ n * m = mul-le 1 m n m some (omega arith) in
    let held_left : held n * 1 ≤ held n * held m = mul-le (held n) 1 (held n) (held m) (omega arith) (omega arith) in
    let held_right : 1 * held m ≤ held n * held m = mul-le 1 (held m) (held n) (held m) (omega arith) (omega arith) in
    held_fitting negative (held n * held m) ∙ elim (cases_lt (2 ^ 64 - 1) n) [
      | inl above ↦ too_wide negative _ (omega arith) ∙ sym (too_wide negative (n * m) (omega arith))
      | inr within ↦ elim (cases_lt (2 ^ 64 - 1) m) [
        | inl above ↦ too_wide negative _ (omega arith) ∙ sym (too_wide negative (n * m) (omega arith))
        | inr also ↦ rw (min-eq_left within, min-eq_left also) refl
      ]
    ]

-- a product of held numbers is held
pub held_product : (negative : Bool) (n m : ℕ) → 0 < m → fitting negative (held (held n * held m)) ≡ fitting negative (n * m)
held_product negative zero m more = rw (zero-mul m, zero-mul (held m)) refl
held_product negative (suc n) m more = nonzero negative (suc n) m (omega arith) more

-- something past the point makes a fraction
fraction_past : (negative : Bool) (n past : ℕ) → 0 < past → unless_fraction negative n past ≡ Err Fraction
fraction_past negative n past some = grind (arith, nat_tests)

-- a fraction shows in held numbers
pub held_unless : (negative : Bool) (n past : ℕ) → unless_fraction negative (held n) (held past) ≡ unless_fraction negative n past
held_unless negative n zero = held_fitting negative n
held_unless negative n (suc past) = fraction_past negative (held n) (held (suc past)) (omega arith) ∙ sym (fraction_past negative n (suc past) (omega arith))

-- zeros behind the last digit
pub whole_of-pos : (negative : Bool) (n k : ℕ) → whole_of negative n (pos k) ≡ fitting negative (n * 10 ^ k)
whole_of-pos true zero k = rw (zero-mul (10 ^ k)) refl
whole_of-pos false zero k = rw (zero-mul (10 ^ k)) refl
whole_of-pos negative (suc n) k = refl

-- a sum is 0 where both parts are
nothing : (x y power : ℕ) → 0 ≡ x * power + y → 0 < power → (x ≡ 0) × (y ≡ 0)
nothing zero y power e h = (refl, omega arith)
nothing (suc x) y power e h = absurd (omega (arith, mul-le 1 1 (suc x) power (omega arith) (omega arith)))

-- the last k digits y past the point, and x before it
pub whole_of-neg : (negative : Bool) (n x y k : ℕ) → n ≡ x * 10 ^ k + y → y < 10 ^ k → whole_of negative n (neg_ℤ (pos k)) ≡ unless_fraction negative x y
whole_of-neg negative n x y zero e h =
    let whole : n ≡ x = omega arith in
    let none : y ≡ 0 = omega arith in
    whole_of-pos negative n 0 ∙ rw none (ap (fitting negative) (omega arith))
whole_of-neg true zero x y (suc k) e h = rw ((nothing x y (10 ^ suc k) e (omega arith)).0, (nothing x y (10 ^ suc k) e (omega arith)).1) refl
whole_of-neg false zero x y (suc k) e h = rw ((nothing x y (10 ^ suc k) e (omega arith)).0, (nothing x y (10 ^ suc k) e (omega arith)).1) refl
whole_of-neg negative (suc n) x y (suc k) e h =
    rw (e, div-mul-add x (10 ^ suc k) y h, mod-mul-add x (10 ^ suc k) y h) refl
