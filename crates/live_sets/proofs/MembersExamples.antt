-- Examples of the definitions, each with a neighbouring reading that it rules out.
use Rattle.std.proofs.Common.{◌≡◌, ◌^◌, [], ◌∷◌, refl, arith, lit<}
use Rattle.live_sets.specs.Members.{members, bits_of, with_member, IsLiveList}

-- The lowest bit is the member 0, and comes first.
members_rise : members 5 ≡ 0 ∷ 2 ∷ []
unfolding members
members_rise = refl

the_last_bit_is_a_member : members (2 ^ 63) ≡ 63 ∷ []
unfolding members
the_last_bit_is_a_member = refl

bits_come_back : bits_of (0 ∷ 2 ∷ 63 ∷ []) ≡ 9223372036854775813
bits_come_back = refl

a_member_comes_in_its_place : with_member 5 (3 ∷ 9 ∷ []) ≡ 3 ∷ 5 ∷ 9 ∷ []
a_member_comes_in_its_place = refl

a_member_stands_once : with_member 3 (3 ∷ 9 ∷ []) ≡ 3 ∷ 9 ∷ []
a_member_stands_once = refl

no_number_stands_twice : IsLiveList (5 ∷ 5 ∷ []) → ⊥
no_number_stands_twice h = omega (arith, h.rising 0 (lit< tt))

no_member_is_64 : IsLiveList (64 ∷ []) → ⊥
no_member_is_64 h = omega (arith, h.below 0 0 (lit< tt))
