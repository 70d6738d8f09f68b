-- The value of digits that a point cuts in two, where the point moves.
use Rattle.std.proofs.Common.{◌≡◌, ◌∙◌, ap, sym, ℕ, zero, suc, ◌+◌, ◌-◌, ◌*◌, ◌^◌, ◌<◌, ◌≤◌, ℤ, pos, neg_ℤ, ◌-ℤ◌, min, Bool, true, false, List, [], ◌∷◌, ◌++◌, length, take, drop, refl, arith, inl, inr, ◌⊎◌, append_assoc, length-append, length-drop}
use Rattle.std.specs.List.{list_all}
use Rattle.std.specs.Char.{is_ascii_digit}
use Rattle.std.proofs.lemmas.Bool.{cases_lt}
use Rattle.std.proofs.lemmas.Int.{ints}
use Rattle.std.proofs.lemmas.List.{take-append-drop}
use Rattle.std.proofs.lemmas.Nat.{mul-le}
use Rattle.std.proofs.Math.Nat.{pow-le-pow_right, zero-mul}
use Rattle.num_text.specs.NumberText.{digits_number, with_sign, fitting, unless_fraction, whole_of}
use Rattle.num_text.specs.Held.{held}
use Rattle.num_text.proofs.NumberLaws.{and_parts, digits_number-append, digits_number-lt, too_wide, whole_of-pos, whole_of-neg}

-- the digits at the back
list_all-back : (xs ys : List ℕ) → list_all is_ascii_digit (xs ++ ys) ≡ true → list_all is_ascii_digit ys ≡ true
list_all-back [] ys h = h
list_all-back (x ∷ xs) ys h = list_all-back xs ys (and_parts (is_ascii_digit x) (list_all is_ascii_digit (xs ++ ys)) h).1

-- the point moves over the digits of ys
whole_of-cut : (negative : Bool) (xs ys : List ℕ) → list_all is_ascii_digit (xs ++ ys) ≡ true → whole_of negative (digits_number (xs ++ ys)) (neg_ℤ (pos (length ys))) ≡ unless_fraction negative (digits_number xs) (digits_number ys)
whole_of-cut negative xs ys h = whole_of-neg negative _ (digits_number xs) (digits_number ys) (length ys) (digits_number-append xs ys) (digits_number-lt ys (list_all-back xs ys h))

-- the point moves over all digits, and over k places or more
whole_of-below : (negative : Bool) (ys : List ℕ) (k : ℕ) → list_all is_ascii_digit ys ≡ true → length ys ≤ k → whole_of negative (digits_number ys) (neg_ℤ (pos k)) ≡ unless_fraction negative 0 (digits_number ys)
whole_of-below negative ys k h long =
    let width : 10 ^ length ys ≤ 10 ^ k = pow-le-pow_right {n = 10} (omega arith) long in
    whole_of-neg negative (digits_number ys) 0 (digits_number ys) k (omega (arith, zero-mul (10 ^ k))) (omega (arith, digits_number-lt ys h))

-- the point between two runs that are the digits
cut_at : (negative : Bool) (whole behind front back : List ℕ) (shift : ℤ) → list_all is_ascii_digit (whole ++ behind) ≡ true → front ++ back ≡ whole ++ behind → shift ≡ neg_ℤ (pos (length back)) → whole_of negative (digits_number (whole ++ behind)) shift ≡ unless_fraction negative (digits_number front) (digits_number back)
cut_at negative whole behind front back shift h e k =
    let digits : list_all is_ascii_digit (front ++ back) ≡ true = ap (list_all is_ascii_digit) e ∙ h in
    ap (λ s. whole_of negative (digits_number (whole ++ behind)) s) k ∙ ap (λ l. whole_of negative (digits_number l) (neg_ℤ (pos (length back)))) (sym e) ∙ whole_of-cut negative front back digits

-- the point moves to the back, and digits stand there
pub whole_of-within : (negative : Bool) (whole behind : List ℕ) (e : ℕ) → list_all is_ascii_digit (whole ++ behind) ≡ true → e ≤ length behind → whole_of negative (digits_number (whole ++ behind)) (with_sign false e -ℤ pos (length behind)) ≡ unless_fraction negative (digits_number (whole ++ take e behind)) (digits_number (drop e behind))
whole_of-within negative whole behind e h within =
    cut_at negative whole behind (whole ++ take e behind) (drop e behind) _ h (rw (append_assoc, take-append-drop) refl) (omega (arith, ints, length-drop e behind))

-- the point moves to the front
pub whole_of-front : (negative : Bool) (whole behind : List ℕ) (e p : ℕ) → list_all is_ascii_digit (whole ++ behind) ≡ true → p ≡ held e → length whole < 2 ^ 64 → whole_of negative (digits_number (whole ++ behind)) (with_sign true e -ℤ pos (length behind)) ≡ unless_fraction negative (digits_number (take (length whole - p) whole)) (digits_number (drop (length whole - p) whole ++ behind))
whole_of-front negative whole behind e p h is fits =
    elim (cases_lt (length whole) e) [
      | inl past ↦
          let start : length whole - p ≡ 0 = omega arith in
          rw start (ap (λ s. whole_of negative (digits_number (whole ++ behind)) s) (omega (arith, ints)) ∙ whole_of-below negative (whole ++ behind) (e + length behind) h (omega (arith, length-append whole behind)))
      | inr inside ↦
          let exact : p ≡ e = omega arith in
          rw exact (cut_at negative whole behind (take (length whole - e) whole) (drop (length whole - e) whole ++ behind) _ h (rw (← append_assoc, take-append-drop) refl) (omega (arith, ints, length-append (drop (length whole - e) whole) behind, length-drop (length whole - e) whole)))
    ]

-- a power that is held is exact, or beyond every number of 64 bits
pub power_cases : (digits : List ℕ) (p room : ℕ) → list_all is_ascii_digit digits ≡ true → p ≡ held (digits_number digits) → room + length digits < 2 ^ 64 → (p ≡ digits_number digits) ⊎ ((room + 20 ≤ p) × (room + 20 ≤ digits_number digits))
power_cases digits p room h is fits =
    elim (cases_lt (2 ^ 64 - 1) (digits_number digits)) [
      | inl above ↦
          let width : digits_number digits < 10 ^ length digits = digits_number-lt digits h in
          let long : 20 ≤ length digits = elim (cases_lt 19 (length digits)) [
            | inl longer ↦ omega arith
            | inr short ↦
                let power : 10 ^ length digits ≤ 10 ^ 19 = pow-le-pow_right {n = 10} (omega arith) short in
                absurd (omega arith)
          ] in
          inr (omega arith, omega arith)
      | inr within ↦ inl (omega arith)
    ]

-- more than 20 zeros are too wide, as 20 are
zeros_enough : (negative : Bool) (n e : ℕ) → 20 ≤ e → fitting negative (n * 10 ^ 20) ≡ fitting negative (n * 10 ^ e)
zeros_enough negative zero e h = rw (zero-mul (10 ^ e)) refl
zeros_enough negative (suc n) e h =
    let power : 10 ^ 20 ≤ 10 ^ e = pow-le-pow_right {n = 10} (omega arith) h in
    let product : 1 * 10 ^ 20 ≤ suc n * 10 ^ e = mul-le 1 (10 ^ 20) (suc n) (10 ^ e) (omega arith) power in
    too_wide negative (suc n * 10 ^ 20) (omega arith) ∙ sym (too_wide negative (suc n * 10 ^ e) (omega arith))

-- the zeros that are counted up to 20
zeros_held : (negative : Bool) (n z k : ℕ) → (z ≡ k) ⊎ ((z ≡ 20) × (20 ≤ k)) → fitting negative (n * 10 ^ k) ≡ fitting negative (n * 10 ^ z)
zeros_held negative n z k (inl same) = rw same refl
zeros_held negative n z k (inr most) = rw most.0 (sym (zeros_enough negative n k most.1))

-- a count up to 20 is exact, or 20 and below the count
held_zeros : (z : ℕ) → (min z 20 ≡ z) ⊎ ((min z 20 ≡ 20) × (20 ≤ z))
held_zeros z = elim (cases_lt 20 z) [ inl more ↦ inr (omega arith, omega arith) | inr less ↦ inl (omega arith) ]

-- the shift of a power above the digits behind the point
shift_up : (e n : ℕ) → n ≤ e → with_sign false e -ℤ pos n ≡ pos (e - n)
shift_up e n h = omega (arith, ints)

-- the point moves behind the last digit
pub whole_of-back : (negative : Bool) (whole behind digits : List ℕ) (p : ℕ) → list_all is_ascii_digit digits ≡ true → p ≡ held (digits_number digits) → length behind + length digits < 2 ^ 64 → length behind < p → whole_of negative (digits_number (whole ++ behind)) (with_sign false (digits_number digits) -ℤ pos (length behind)) ≡ fitting negative (digits_number (whole ++ behind) * 10 ^ min (p - length behind) 20)
whole_of-back negative whole behind digits p h is fits past =
    let above : length behind ≤ digits_number digits = omega arith in
    ap (λ s. whole_of negative (digits_number (whole ++ behind)) s) (shift_up (digits_number digits) (length behind) above)
    ∙ whole_of-pos negative (digits_number (whole ++ behind)) (digits_number digits - length behind)
    ∙ zeros_held negative (digits_number (whole ++ behind)) (min (p - length behind) 20) (digits_number digits - length behind)
    (elim (power_cases digits p (length behind) h is fits) [
      | inl exact ↦ rw (← exact) (held_zeros (p - length behind))
      | inr far ↦ inr (omega arith, omega arith)
    ])
