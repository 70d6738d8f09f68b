-- The members of a number's bits, after each change of a bit.
use Rattle.std.proofs.Common.{◌≡◌, ◌≢◌, ℕ, ◌+◌, ◌-◌, ◌*◌, ◌%◌, ◌^◌, ◌<◌, ◌≤◌, ◌==◌, Bool, true, not, inl, inr, List, [], ◌∷◌, get_or, filter, min, All, Contains, refl, sym, subst, ◌∙◌, arith, bit_and, bit_or, w64}
use Rattle.std.proofs.lemmas.Bool.Decides.{nat_tests}
use Rattle.std.proofs.lemmas.Nat.{and_le_l}
use Rattle.std.proofs.lemmas.Nat.Bits.{bit_at-zero, bit_at_ones, bit_at_ones_above, bit_at_set_same, bit_at_set_other, bit_at_clear_same, bit_at_clear_other, bit_at-lt, bit_at-trailing_zeros, bit_at_and, bit_at_not, same_from_bits_below}
use Rattle.std.proofs.lemmas.Bool.{cases_lt, cases_eq}
use Rattle.std.proofs.lemmas.List.Elements.{All-contains, Contains-get_or}
use Rattle.std.specs.Int.{bit_at, bit_not, trailing_zeros}
use Rattle.std.specs.List.{range_with_len}
use Rattle.live_sets.specs.Members.{members, with_member, IsLiveList}
use Rattle.live_sets.proofs.RisingLists.{In, Rises, same_members, rises-range, in_range, in_range-from, rises-filter, in_filter, in_filter-from, rises-with_member, in_with_member, in_with_member-from, in-Contains, Contains-in, rises-IsStrictlyIncreasing}

abbrev is_set : ℕ → ℕ → Bool
is_set bits k = bit_at bits k == 1

set_bit : (bits k : ℕ) → bit_at bits k ≡ 1 → is_set bits k ≡ true
set_bit bits k e = grind (arith, nat_tests, e)

bit_of_set : (bits k : ℕ) → is_set bits k ≡ true → bit_at bits k ≡ 1
bit_of_set bits k e = grind (arith, nat_tests, e)

pub rises-members : (bits : ℕ) → Rises 0 (members bits)
unfolding members
rises-members bits = rises-filter (is_set bits) 0 (range_with_len 0 64) (rises-range 0 64)

pub in_members : (bits k : ℕ) → In (members bits) k → (k < 64) × (bit_at bits k ≡ 1)
unfolding members
in_members bits k i =
    let both = in_filter (is_set bits) (range_with_len 0 64) k i in
    (omega (arith, in_range 0 64 k both.0), bit_of_set bits k both.1)

pub in_members-from : (bits k : ℕ) → k < 64 → bit_at bits k ≡ 1 → In (members bits) k
unfolding members
in_members-from bits k h e = in_filter-from (is_set bits) (range_with_len 0 64) k (in_range-from 0 64 k (omega arith) (omega arith)) (set_bit bits k e)

-- A rising list is the members of a number as soon as it has the places of its bits.
members_are : (bits : ℕ) (xs : List ℕ) → Rises 0 xs → ((k : ℕ) → k < 64 → bit_at bits k ≡ 1 → In xs k) → ((k : ℕ) → In xs k → (k < 64) × (bit_at bits k ≡ 1)) → members bits ≡ xs
members_are bits xs r there back =
    same_members 0 (members bits) xs (rises-members bits) r
    (λ k i. let both = in_members bits k i in there k both.0 both.1)
    (λ k i. let both = back k i in in_members-from bits k both.0 both.1)

pub IsLiveList-members : (bits : ℕ) → IsLiveList (members bits)
IsLiveList-members bits = record {
  rising = rises-IsStrictlyIncreasing 0 (members bits) (rises-members bits);
  below = λ k d h. (in_members bits _ (in-Contains (members bits) _ (Contains-get_or (members bits) k d h))).0;
}

pub members-zero : members 0 ≡ []
members-zero = members_are 0 [] tt (λ k h e. let z = bit_at-zero k in absurd (omega (arith, e, z))) (λ k i. absurd i)

pub members-ones : (n : ℕ) → n ≤ 64 → members (2 ^ n - 1) ≡ range_with_len 0 n
members-ones n h =
    members_are (2 ^ n - 1) (range_with_len 0 n) (rises-range 0 n)
    (λ k _ e. elim (cases_lt k n) [ inl below ↦ in_range-from 0 n k (omega arith) (omega arith) | inr above ↦ absurd (omega (arith, e, bit_at_ones_above n k above)) ])
    (λ k i. (omega (arith, in_range 0 n k i), bit_at_ones n k (omega (arith, in_range 0 n k i))))

-- ---- one bit more, one less

abbrev pub with_bit : ℕ → ℕ → ℕ
with_bit bits k = bit_or bits (1 * 2 ^ k % 2 ^ 64)

abbrev pub without_bit : ℕ → ℕ → ℕ
without_bit bits k = bit_and bits (bit_not w64 (1 * 2 ^ k % 2 ^ 64))

pub members-with_bit : (bits k : ℕ) → k < 64 → members (with_bit bits k) ≡ with_member k (members bits)
members-with_bit bits k h =
    members_are (with_bit bits k) (with_member k (members bits)) (rises-with_member k 0 (members bits) (omega arith) (rises-members bits))
    (λ j low e. in_with_member-from k (members bits) j (elim (cases_eq j k) [
      | inl same ↦ inl (sym same)
      | inr other ↦ inr (in_members-from bits j low (sym (bit_at_set_other w64 bits k h j other) ∙ e))
    ]))
    (λ j i. elim (in_with_member k (members bits) j i) [
      | inl same ↦ (omega arith, subst (λ m. bit_at (with_bit bits k) m ≡ 1) same (bit_at_set_same w64 bits k h))
      | inr old ↦ let both = in_members bits j old in (
        both.0,
        elim (cases_eq j k) [
          | inl same ↦ subst (λ m. bit_at (with_bit bits k) m ≡ 1) (sym same) (bit_at_set_same w64 bits k h)
          | inr other ↦ bit_at_set_other w64 bits k h j other ∙ both.1
        ],
      )
    ])

bit_differs : (j k : ℕ) → not (j == k) ≡ true → j ≢ k
bit_differs j k e same = grind (arith, nat_tests, e, same)

differs_test : (j k : ℕ) → j ≢ k → not (j == k) ≡ true
differs_test j k other = grind (arith, nat_tests, other)

pub members-without_bit : (bits k : ℕ) → k < 64 → members (without_bit bits k) ≡ filter (λ j. not (j == k)) (members bits)
members-without_bit bits k h =
    members_are (without_bit bits k) (filter (λ j. not (j == k)) (members bits)) (rises-filter (λ j. not (j == k)) 0 (members bits) (rises-members bits))
    (λ j low e. elim (cases_eq j k) [
      | inl same ↦ absurd (omega (arith, subst (λ m. bit_at (without_bit bits k) m ≡ 1) same e, bit_at_clear_same w64 bits k h))
      | inr other ↦ in_filter-from (λ j. not (j == k)) (members bits) j (in_members-from bits j low (sym (bit_at_clear_other w64 bits k h j low other) ∙ e)) (differs_test j k other)
    ])
    (λ j i.
    let both = in_filter (λ j. not (j == k)) (members bits) j i in
    let old = in_members bits j both.0 in
    (old.0, bit_at_clear_other w64 bits k h j old.0 (bit_differs j k both.1) ∙ old.1))

-- ---- the least member

rises_from : (low : ℕ) (xs : List ℕ) → Rises 0 xs → ((k : ℕ) → In xs k → low ≤ k) → Rises low xs
rises_from low [] r above = tt
rises_from low (x ∷ xs) r above = (above x (inl refl), r.1)

above_lowest : (bits k : ℕ) → 0 < bits → bits < 2 ^ 64 → In (members (without_bit bits (trailing_zeros w64 bits))) k → trailing_zeros w64 bits + 1 ≤ k
above_lowest bits k pos fits i =
    let lowest = bit_at-trailing_zeros w64 bits pos fits in
    let t : ℕ = trailing_zeros w64 bits in
    let both = in_members (without_bit bits t) k i in
    elim (cases_eq k t) [
      | inl same ↦ absurd (omega (arith, subst (λ m. bit_at (without_bit bits t) m ≡ 1) same both.1, bit_at_clear_same w64 bits t lowest.0))
      | inr other ↦
          let old : bit_at bits k ≡ 1 = sym (bit_at_clear_other w64 bits t lowest.0 k both.0 other) ∙ both.1 in
          elim (cases_lt k t) [ inl below ↦ absurd (omega (arith, old, lowest.2 k below)) | inr above ↦ omega (arith, above, other) ]
    ]

pub members-lowest : (bits : ℕ) → 0 < bits → bits < 2 ^ 64 → members bits ≡ trailing_zeros w64 bits ∷ members (without_bit bits (trailing_zeros w64 bits))
members-lowest bits pos fits =
    let lowest = bit_at-trailing_zeros w64 bits pos fits in
    let t : ℕ = trailing_zeros w64 bits in
    members_are bits (t ∷ members (without_bit bits t))
    (omega arith, rises_from (t + 1) (members (without_bit bits t)) (rises-members (without_bit bits t)) (λ k i. above_lowest bits k pos fits i))
    (λ j low e. elim (cases_eq j t) [
      | inl same ↦ inl (sym same)
      | inr other ↦ inr (in_members-from (without_bit bits t) j low (bit_at_clear_other w64 bits t lowest.0 j low other ∙ e))
    ])
    (λ j i. elim i [
      | inl same ↦ (omega (arith, lowest.0), subst (λ m. bit_at bits m ≡ 1) same lowest.1)
      | inr later ↦
          let both = in_members (without_bit bits t) j later in
          (both.0, sym (bit_at_clear_other w64 bits t lowest.0 j both.0 (λ same. omega (arith, same, above_lowest bits j pos fits later))) ∙ both.1)
    ])

-- ---- one set within another

abbrev pub bits_outside : ℕ → ℕ → ℕ
bits_outside bits other = bit_and bits (bit_not w64 other)

bit_outside : (bits other k : ℕ) → other < 2 ^ 64 → k < 64 → bit_at (bits_outside bits other) k ≡ min (bit_at bits k) (1 - bit_at other k)
bit_outside bits other k h low = rw (bit_at_and, bit_at_not w64 other k h low) refl

pub subset_from_bits : (bits other : ℕ) → other < 2 ^ 64 → bits_outside bits other ≡ 0 → All (Contains (members other)) (members bits)
subset_from_bits bits other h none i d low =
    let k : ℕ = get_or (members bits) i d in
    let both = in_members bits k (in-Contains (members bits) k (Contains-get_or (members bits) i d low)) in
    let e : bit_at (bits_outside bits other) k ≡ 0 = rw none (bit_at-zero k) in
    Contains-in (members other) k (in_members-from other k both.0 (omega (arith, both.1, e, bit_outside bits other k h both.0, bit_at-lt other k)))

and_below : (a b : ℕ) → a < 2 ^ 64 → bits_outside a b < 2 ^ 64
and_below a b h = omega (arith, and_le_l a (bit_not w64 b))

pub bits_from_subset : (bits other : ℕ) → bits < 2 ^ 64 → other < 2 ^ 64 → All (Contains (members other)) (members bits) → bits_outside bits other ≡ 0
bits_from_subset bits other h g all =
    same_from_bits_below 64 (bits_outside bits other) 0 (and_below bits other h) (omega arith)
    (λ k low. elim (cases_eq (bit_at bits k) 1) [
      | inl e ↦
          let found = in_members other k (in-Contains (members other) k (All-contains (Contains (members other)) (members bits) k all (Contains-in (members bits) k (in_members-from bits k low e)))) in
          omega (arith, found.1, bit_outside bits other k g low, bit_at-zero k)
      | inr other_bit ↦ omega (arith, bit_outside bits other k g low, bit_at-zero k, bit_at-lt bits k, other_bit)
    ])
