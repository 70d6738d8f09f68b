-- Sets of scenarios as lists.
use Rattle.std.specs.Prelude.{◌≡◌, ◌↔◌, ℕ, suc, ◌<◌, List, [], ◌∷◌, Bool, true, false, ◌||◌, nat_eq, nat_lt, IsTrue, Contains, refl, ◌⊎◌}
use Rattle.std.specs.List.{list_any}
use Rattle.std.specs.List.Sorted.{IsStrictlyIncreasing}
use Rattle.std.proofs.Common.{arith, sym, inl, inr}
use native.Mathlib.Numerals.{unary_clauses}
use Rattle.std.proofs.lemmas.Bool.{and_from}
use Rattle.std.proofs.lemmas.Bool.Decides.{nat_tests}
use Rattle.certs.specs.Trees.{is_rising}
use Rattle.live_sets.specs.Members.{IsLiveList}
use Rattle.live_sets.proofs.RisingLists.{In, in-Contains, Contains-in}

or_either : (a b : Bool) → a || b ≡ true → (a ≡ true) ⊎ (b ≡ true)
or_either true b e = inl refl
or_either false b e = inr e

or_first : (a b : Bool) → a ≡ true → a || b ≡ true
or_first a b e = rw e refl

or_second : (a b : Bool) → b ≡ true → a || b ≡ true
or_second true b e = refl
or_second false b e = e

pub any_in : (k : ℕ) (xs : List ℕ) → list_any (nat_eq k) xs ≡ true → In xs k
any_in k [] e = absurd (cc)
any_in k (x ∷ xs) e = elim (or_either (nat_eq k x) (list_any (nat_eq k) xs) e) [
  | inl t ↦ inl (let w : x ≡ k = grind (arith, nat_tests, t) in w)
  | inr t ↦ inr (any_in k xs t)
]

pub in_any : (k : ℕ) (xs : List ℕ) → In xs k → list_any (nat_eq k) xs ≡ true
in_any k [] i = absurd i
in_any k (x ∷ xs) (inl e) = or_first (nat_eq k x) (list_any (nat_eq k) xs) (let w : nat_eq k x ≡ true = grind (arith, nat_tests, e) in w)
in_any k (x ∷ xs) (inr i) = or_second (nat_eq k x) (list_any (nat_eq k) xs) (in_any k xs i)

-- a test of membership
pub member_is : (b : Bool) (xs : List ℕ) (k : ℕ) → IsTrue b ↔ Contains xs k → b ≡ list_any (nat_eq k) xs
member_is true xs k h = sym (in_any k xs (in-Contains xs k (h.0 refl)))
member_is false xs k h = by_test (list_any (nat_eq k) xs) refl
  where
    by_test : (t : Bool) → list_any (nat_eq k) xs ≡ t → false ≡ list_any (nat_eq k) xs
    by_test true e = absurd (let w : false ≡ true = h.1 (Contains-in xs k (any_in k xs e)) in cc)
    by_test false e = sym e

tail_rises : (x : ℕ) (xs : List ℕ) → IsStrictlyIncreasing (x ∷ xs) → IsStrictlyIncreasing xs
tail_rises x xs r k h = simp unary_clauses (simp unary_clauses at (r (suc k) (omega arith)))

strictly_rising : (xs : List ℕ) → IsStrictlyIncreasing xs → is_rising xs ≡ true
strictly_rising [] r = refl
strictly_rising (x ∷ []) r = refl
strictly_rising (x ∷ y ∷ xs) r =
    let step : x < y = r 0 (omega arith) in
    and_from (nat_lt x y) (is_rising (y ∷ xs)) (grind (arith, nat_tests, step)) (strictly_rising (y ∷ xs) (tail_rises x (y ∷ xs) r))

pub set_rises : (xs : List ℕ) → IsLiveList xs → is_rising xs ≡ true
set_rises xs h = strictly_rising xs h.rising
