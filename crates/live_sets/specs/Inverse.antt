-- A number is given back by the members of its bits.
use Rattle.std.proofs.Common.{◌≡◌, ℕ, zero, suc, ◌+◌, ◌*◌, ◌%◌, ◌^◌, ◌<◌, ◌==◌, Bool, true, false, cond, List, [], ◌∷◌, ◌++◌, filter, refl, ap, ◌∙◌, arith, add-zero}
use Rattle.std.proofs.lemmas.Bool.Decides.{nat_tests}
use Rattle.std.proofs.lemmas.List.Elements.{filter-append}
use Rattle.std.proofs.lemmas.Nat.{mod-pow-add}
use Rattle.std.proofs.lemmas.Nat.Bits.{bit_at-lt}
use Rattle.std.specs.Int.{bit_at}
use Rattle.std.specs.List.{range_with_len}
use Rattle.live_sets.specs.Members.{members, bits_of}

range-more : (a n : ℕ) → range_with_len a (suc n) ≡ range_with_len a n ++ (a + n) ∷ []
range-more a zero = simp add-zero
range-more a (suc n) =
    let moved : a + 1 + n ≡ a + suc n = omega arith in
    ap (λ ys. a ∷ ys) (rw (← moved) (range-more (a + 1) n))

-- the numbers below k whose bit is set
abbrev pub below : ℕ → ℕ → List ℕ
below k bits = filter (λ j. bit_at bits j == 1) (range_with_len 0 k)

pub below-more : (k bits : ℕ) → below (suc k) bits ≡ below k bits ++ cond (bit_at bits k == 1) (k ∷ []) []
below-more k bits =
    let e : 0 + k ≡ k = omega arith in
    ap (filter (λ j. bit_at bits j == 1)) (rw e at (range-more 0 k)) ∙ filter-append (λ j. bit_at bits j == 1) (range_with_len 0 k) (k ∷ [])

-- the low bits of a number: the top one of them before the others
pub low_bits-more : (k bits : ℕ) → bits % 2 ^ suc k ≡ bit_at bits k * 2 ^ k + bits % 2 ^ k
low_bits-more k bits = let e : 1 + k ≡ suc k = omega arith in rw e at (mod-pow-add bits 1 k)

bits_of-append : (xs ys : List ℕ) → bits_of (xs ++ ys) ≡ bits_of xs + bits_of ys
bits_of-append [] ys = omega arith
bits_of-append (x ∷ xs) ys = omega (arith, bits_of-append xs ys)

one_bit : (k bit : ℕ) → bit < 2 → bits_of (cond (bit == 1) (k ∷ []) []) ≡ bit * 2 ^ k
one_bit k bit h = by_test (bit == 1) refl
  where
    by_test : (b : Bool) → (bit == 1) ≡ b → bits_of (cond b (k ∷ []) []) ≡ bit * 2 ^ k
    by_test true e = let f : bit ≡ 1 = grind (arith, nat_tests, e) in rw f (omega arith)
    by_test false e = let f : bit ≡ 0 = grind (arith, nat_tests, e) in rw f (omega arith)

bits_of-below : (k bits : ℕ) → bits_of (below k bits) ≡ bits % 2 ^ k
bits_of-below zero bits = omega arith
bits_of-below (suc k) bits =
    rw (below-more k bits, low_bits-more k bits)
    (omega (arith, bits_of-append (below k bits) (cond (bit_at bits k == 1) (k ∷ []) []), bits_of-below k bits, one_bit k (bit_at bits k) (bit_at-lt bits k)))

pub bits_of-members : (bits : ℕ) → bits < 2 ^ 64 → bits_of (members bits) ≡ bits
unfolding members
bits_of-members bits h = bits_of-below 64 bits ∙ omega (arith, h)
