-- A number has as many ones as its bits have members.
use Rattle.std.proofs.Common.{◌≡◌, ℕ, zero, suc, ◌%◌, ◌^◌, ◌<◌, ◌==◌, Bool, true, false, cond, inl, inr, [], ◌∷◌, length, refl, sym, arith, length-append, count_ones}
use Rattle.std.proofs.lemmas.Bool.{cases_eq}
use Rattle.std.proofs.lemmas.Bool.Decides.{nat_tests}
use Rattle.std.proofs.lemmas.Nat.{ones_cat, ones_le_self, pow_pos, zero_from_ones}
use Rattle.std.proofs.lemmas.Nat.Bits.{bit_at-lt}
use Rattle.std.specs.Int.{bit_at}
use Rattle.live_sets.specs.Members.{members}
use Rattle.live_sets.specs.Inverse.{below, below-more, low_bits-more}

one_digit : (bit : ℕ) → bit < 2 → count_ones bit ≡ bit
one_digit zero h = omega (arith, ones_le_self 0)
one_digit (suc n) h =
    let e : n ≡ 0 = omega arith in
    rw e (elim (cases_eq (count_ones 1) 0) [ inl z ↦ absurd (omega (arith, zero_from_ones 1 z)) | inr z ↦ omega (arith, ones_le_self 1, z) ])

length_bit : (k bit : ℕ) → bit < 2 → length (cond (bit == 1) (k ∷ []) []) ≡ bit
length_bit k bit h = by_test (bit == 1) refl
  where
    by_test : (b : Bool) → (bit == 1) ≡ b → length (cond b (k ∷ []) []) ≡ bit
    by_test true e = grind (arith, nat_tests, e)
    by_test false e = grind (arith, nat_tests, e)

length-below : (k bits : ℕ) → length (below k bits) ≡ count_ones (bits % 2 ^ k)
length-below zero bits = let e : bits % 1 ≡ 0 = omega arith in rw e (sym (one_digit 0 (omega arith)))
length-below (suc k) bits =
    rw (below-more k bits, low_bits-more k bits, ones_cat k (bit_at bits k) (bits % 2 ^ k) (omega (arith, pow_pos k)), length-append, length-below k bits, length_bit k (bit_at bits k) (bit_at-lt bits k), one_digit (bit_at bits k) (bit_at-lt bits k)) (omega arith)

pub length-members : (bits : ℕ) → bits < 2 ^ 64 → length (members bits) ≡ count_ones bits
unfolding members
length-members bits h = let e : bits % 2 ^ 64 ≡ bits = omega arith in rw e at (length-below 64 bits)
