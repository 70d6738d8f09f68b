-- What each test of a set's bits says of its members.
use Rattle.std.proofs.Common.{◌≡◌, ◌≢◌, ◌↔◌, ℕ, ◌/◌, ◌^◌, ◌<◌, ◌≤◌, ◌==◌, Bool, true, not, ◌⊎◌, inl, inr, [], filter, All, Contains, IsTrue, nat_eq, nat_lt, sym, ap, subst, ◌∙◌, arith, bit_and}
use Rattle.std.proofs.lemmas.Bool.Decides.{nat_tests, same_from_decides}
use Rattle.std.proofs.lemmas.Nat.Bits.{shr_and_one}
use Rattle.std.proofs.lemmas.Slice.Eq.{bytes_eq-Decides}
use Rattle.std.specs.Bool.{Decides}
use Rattle.std.specs.Cmp.Lexicographic.{pointwise}
use Rattle.live_sets.specs.Inverse.{bits_of-members}
use Rattle.live_sets.specs.Members.{members, bits_of, with_member}
use Rattle.live_sets.proofs.BitSets.{in_members, in_members-from, members-zero, with_bit, without_bit, members-with_bit, members-without_bit, bits_outside, subset_from_bits, bits_from_subset}
use Rattle.live_sets.proofs.RisingLists.{in-Contains, Contains-in, in_with_member, in_with_member-from, in_filter, in_filter-from}

pub same_numbers : (a b : ℕ) → IsTrue (nat_eq a b) → a ≡ b
same_numbers a b h = grind (arith, nat_tests, h)

pub same_numbers-from : (a b : ℕ) → a ≡ b → IsTrue (nat_eq a b)
same_numbers-from a b h = grind (arith, nat_tests, h)

pub contains_bit : (bits s : ℕ) → s < 64 → IsTrue (nat_eq (bit_and (bits / 2 ^ s) 1) 1) ↔ Contains (members bits) s
contains_bit bits s h = (
  (λ yes. Contains-in (members bits) s (in_members-from bits s h (sym (shr_and_one bits s) ∙ same_numbers _ 1 yes))),
  (λ found. same_numbers-from _ 1 (shr_and_one bits s ∙ (in_members bits s (in-Contains (members bits) s found)).1)),
)

pub contains_beyond : (bits s : ℕ) → 64 ≤ s → IsTrue (nat_lt s 64) ↔ Contains (members bits) s
contains_beyond bits s h = (
  (λ low. absurd (grind (arith, nat_tests, low))),
  (λ found. absurd (omega (arith, (in_members bits s (in-Contains (members bits) s found)).0))),
)

pub contains-with_bit : (bits s k : ℕ) → s < 64 → Contains (members (with_bit bits s)) k ↔ ((k ≡ s) ⊎ Contains (members bits) k)
contains-with_bit bits s k h = (
  (λ found. elim (in_with_member s (members bits) k (in-Contains (with_member s (members bits)) k (subst (λ xs. Contains xs k) (members-with_bit bits s h) found))) [ inl same ↦ inl (sym same) | inr old ↦ inr (Contains-in (members bits) k old) ]),
  (λ either. subst (λ xs. Contains xs k) (sym (members-with_bit bits s h)) (Contains-in (with_member s (members bits)) k (in_with_member-from s (members bits) k (elim either [ inl same ↦ inl (sym same) | inr old ↦ inr (in-Contains (members bits) k old) ])))),
)

abbrev is_other : ℕ → ℕ → Bool
is_other s k = not (k == s)

other_number : (s k : ℕ) → is_other s k ≡ true → k ≢ s
other_number s k e same = grind (arith, nat_tests, e, same)

is_other-from : (s k : ℕ) → k ≢ s → is_other s k ≡ true
is_other-from s k other = grind (arith, nat_tests, other)

pub contains-without_bit : (bits s k : ℕ) → s < 64 → Contains (members (without_bit bits s)) k ↔ (Contains (members bits) k × (k ≢ s))
contains-without_bit bits s k h = (
  (λ found.
      let both = in_filter (is_other s) (members bits) k (in-Contains (filter (is_other s) (members bits)) k (subst (λ xs. Contains xs k) (members-without_bit bits s h) found)) in
      (Contains-in (members bits) k both.0, other_number s k both.1)),
  (λ both. subst (λ xs. Contains xs k) (sym (members-without_bit bits s h)) (Contains-in (filter (is_other s) (members bits)) k (in_filter-from (is_other s) (members bits) k (in-Contains (members bits) k both.0) (is_other-from s k both.1)))),
)

pub empty_bits : (bits : ℕ) → bits < 2 ^ 64 → IsTrue (nat_eq bits 0) ↔ (members bits ≡ [])
empty_bits bits h = (
  (λ zero_bits. ap members (same_numbers bits 0 zero_bits) ∙ members-zero),
  (λ empty. same_numbers-from bits 0 (sym (bits_of-members bits h) ∙ ap bits_of empty)),
)

pub subset_bits : (bits other : ℕ) → bits < 2 ^ 64 → other < 2 ^ 64 → IsTrue (nat_eq (bits_outside bits other) 0) ↔ All (Contains (members other)) (members bits)
subset_bits bits other h g = (
  (λ none. subset_from_bits bits other g (same_numbers _ 0 none)),
  (λ all. same_numbers-from _ 0 (bits_from_subset bits other h g all)),
)

-- Equal sets have equal bits.
pub same_bits : (a b : ℕ) → a < 2 ^ 64 → b < 2 ^ 64 → members a ≡ members b → a ≡ b
same_bits a b h g same = sym (bits_of-members a h) ∙ ap bits_of same ∙ bits_of-members b g

pub same_sets : (a b : ℕ) → a < 2 ^ 64 → b < 2 ^ 64 → IsTrue (nat_eq a b) ↔ (members a ≡ members b)
same_sets a b h g = ((λ yes. ap members (same_numbers a b yes)), (λ same. same_numbers-from a b (same_bits a b h g same)))

pub eq_sets : (a b : ℕ) → a < 2 ^ 64 → b < 2 ^ 64 → nat_eq a b ≡ pointwise nat_eq (members a) (members b)
eq_sets a b h g =
    let decided : Decides (nat_eq a b) (members a ≡ members b) = ((λ e. ap members (grind (arith, nat_tests, e))), (λ same. let e : a ≡ b = same_bits a b h g same in grind (arith, nat_tests, e))) in
    same_from_decides (nat_eq a b) (pointwise nat_eq (members a) (members b)) decided (bytes_eq-Decides (members a) (members b))
