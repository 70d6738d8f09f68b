-- What callers use of sets as lists, in std's words.
use Rattle.std.proofs.Common.{◌≡◌, ◌↔◌, ℕ, suc, ◌+◌, ◌<◌, Bool, inl, inr, List, [], ◌∷◌, ◌++◌, get_or, refl, filter, All, Contains, arith}
use native.Mathlib.Numerals.{unary_clauses}
use Rattle.std.proofs.lemmas.List.Elements.{All-contains, Contains-get_or}
use Rattle.std.specs.List.Sorted.{IsStrictlyIncreasing}
use Rattle.live_sets.specs.Members.{IsLiveList, with_member}
use Rattle.live_sets.proofs.RisingLists.{In, Rises, same_members, in_rising, in_filter, in-Contains, Contains-in}
use Rattle.live_sets.proofs.RisingLists as rising

tail_rises : (x : ℕ) (xs : List ℕ) → IsStrictlyIncreasing (x ∷ xs) → IsStrictlyIncreasing xs
tail_rises x xs r k h = simp unary_clauses (simp unary_clauses at (r (suc k) (omega arith)))

rises_from_head : (x : ℕ) (xs : List ℕ) → IsStrictlyIncreasing (x ∷ xs) → Rises x (x ∷ xs)
rises_from_head x [] r = (omega arith, tt)
rises_from_head x (y ∷ ys) r =
    let rest : Rises y (y ∷ ys) = rises_from_head y ys (tail_rises x (y ∷ ys) r) in
    let step : x < y = r 0 (omega arith) in
    (omega arith, (omega arith, rest.1))

rises_from_zero : (xs : List ℕ) → IsStrictlyIncreasing xs → Rises 0 xs
rises_from_zero [] r = tt
rises_from_zero (x ∷ xs) r = (omega arith, (rises_from_head x xs r).1)

-- Two sets with the same members are one.
pub same_sets : (xs ys : List ℕ) → IsLiveList xs → IsLiveList ys → ((k : ℕ) → Contains xs k ↔ Contains ys k) → xs ≡ ys
same_sets xs ys a b same =
    same_members 0 xs ys (rises_from_zero xs a.rising) (rises_from_zero ys b.rising)
    (λ k i. in-Contains ys k ((same k).0 (Contains-in xs k i)))
    (λ k i. in-Contains xs k ((same k).1 (Contains-in ys k i)))

-- A number above all members comes last.
pub with_member-last : (s : ℕ) (xs : List ℕ) → All (λ k. k < s) xs → with_member s xs ≡ xs ++ s ∷ []
with_member-last s xs above = rising.with_member-last s xs (λ k i. All-contains (λ j. j < s) xs k above (Contains-in xs k i))

-- ---- a loop over a set, which has gone through `before` and comes to s

all_from_in : (P : ℕ → Type 0) (xs : List ℕ) → ((k : ℕ) → In xs k → P k) → All P xs
all_from_in P xs each i d h = each (get_or xs i d) (in-Contains xs (get_or xs i d) (Contains-get_or xs i d h))

in_middle : (before rest : List ℕ) (s : ℕ) → In (before ++ s ∷ rest) s
in_middle [] rest s = inl refl
in_middle (x ∷ before) rest s = inr (in_middle before rest s)

below_next : (low : ℕ) (before rest : List ℕ) (s k : ℕ) → Rises low (before ++ s ∷ rest) → In before k → k < s
below_next low [] rest s k r i = absurd i
below_next low (x ∷ before) rest s k r (inl e) = omega (arith, in_rising (x + 1) s (before ++ s ∷ rest) r.1 (in_middle before rest s))
below_next low (x ∷ before) rest s k r (inr i) = below_next (x + 1) before rest s k r.1 i

pub next_fits : (before rest : List ℕ) (s : ℕ) → IsLiveList (before ++ s ∷ rest) → s < 64
next_fits before rest s set = All-contains (λ k. k < 64) (before ++ s ∷ rest) s set.below (Contains-in (before ++ s ∷ rest) s (in_middle before rest s))

-- A loop comes to the members in rising order.
pub next_is_above : (before rest : List ℕ) (s : ℕ) → IsLiveList (before ++ s ∷ rest) → All (λ k. k < s) before
next_is_above before rest s set = all_from_in (λ k. k < s) before (λ k i. below_next 0 before rest s k (rises_from_zero (before ++ s ∷ rest) set.rising) i)

-- A set of some members grows at its end.
pub with_member-next : (p : ℕ → Bool) (before rest : List ℕ) (s : ℕ) → IsLiveList (before ++ s ∷ rest) → with_member s (filter p before) ≡ filter p before ++ s ∷ []
with_member-next p before rest s set = rising.with_member-last s (filter p before) (λ k i. below_next 0 before rest s k (rises_from_zero (before ++ s ∷ rest) set.rising) (in_filter p before k i).0)
