-- Rising lists: two of them with the same members are equal.
use Rattle.std.proofs.Common.{◌≡◌, ℕ, zero, suc, ◌+◌, ◌<◌, ◌≤◌, ◌==◌, Bool, true, false, cond, nat_lt, ◌⊎◌, inl, inr, List, [], ◌∷◌, ◌++◌, filter, Contains, refl, sym, ap, arith}
use native.Mathlib.Numerals.{unary_clauses}
use Rattle.std.proofs.lemmas.Bool.Decides.{nat_tests}
use Rattle.std.specs.List.{range_with_len}
use Rattle.std.specs.List.Sorted.{IsStrictlyIncreasing}
use Rattle.live_sets.specs.Members.{with_member}

-- k stands in the list
abbrev pub In : List ℕ → ℕ → Type 0
In [] k = ⊥
In (x ∷ xs) k = (x ≡ k) ⊎ In xs k

-- The list rises, from a number of at least low on.
abbrev pub Rises : ℕ → List ℕ → Type 0
Rises low [] = Unit {0}
Rises low (x ∷ xs) = (low ≤ x) × Rises (x + 1) xs

pub in_rising : (low k : ℕ) (xs : List ℕ) → Rises low xs → In xs k → low ≤ k
in_rising low k [] r i = absurd i
in_rising low k (x ∷ xs) r (inl e) = omega (arith, r.0)
in_rising low k (x ∷ xs) r (inr i) = omega (arith, r.0, in_rising (x + 1) k xs r.1 i)

pub rises_lower : (low high : ℕ) (xs : List ℕ) → low ≤ high → Rises high xs → Rises low xs
rises_lower low high [] h r = tt
rises_lower low high (x ∷ xs) h r = (omega (arith, r.0), r.1)

heads_meet : (x y low : ℕ) (xs ys : List ℕ) → Rises low (x ∷ xs) → Rises low (y ∷ ys) → In (y ∷ ys) x → In (x ∷ xs) y → x ≡ y
heads_meet x y low xs ys r q (inl e) i = sym e
heads_meet x y low xs ys r q (inr j) (inl e) = e
heads_meet x y low xs ys r q (inr j) (inr i) = absurd (omega (arith, in_rising (x + 1) y xs r.1 i, in_rising (y + 1) x ys q.1 j))

in_tail : (x y k : ℕ) (xs ys : List ℕ) → x ≡ y → Rises (x + 1) xs → In xs k → In (y ∷ ys) k → In ys k
in_tail x y k xs ys same r i (inl e) = absurd (omega (arith, in_rising (x + 1) k xs r i))
in_tail x y k xs ys same r i (inr j) = j

-- Two rising lists with the same members are equal.
pub same_members : (low : ℕ) (xs ys : List ℕ) → Rises low xs → Rises low ys → ((k : ℕ) → In xs k → In ys k) → ((k : ℕ) → In ys k → In xs k) → xs ≡ ys
same_members low [] [] r q there back = refl
same_members low [] (y ∷ ys) r q there back = absurd (back y (inl refl))
same_members low (x ∷ xs) [] r q there back = absurd (there x (inl refl))
same_members low (x ∷ xs) (y ∷ ys) r q there back =
    let same : x ≡ y = heads_meet x y low xs ys r q (there x (inl refl)) (back y (inl refl)) in
    let q' : Rises (x + 1) ys = rises_lower (x + 1) (y + 1) ys (omega arith) q.1 in
    let rest : xs ≡ ys = same_members (x + 1) xs ys r.1 q' (λ k i. in_tail x y k xs ys same r.1 i (there k (inr i))) (λ k i. in_tail y x k ys xs (sym same) q.1 i (back k (inr i))) in
    cc

-- ---- the numbers of a range, and a filter

pub rises-range : (a n : ℕ) → Rises a (range_with_len a n)
rises-range a zero = tt
rises-range a (suc n) = (omega arith, rises-range (a + 1) n)

pub in_range : (a n k : ℕ) → In (range_with_len a n) k → k < a + n
in_range a zero k i = absurd i
in_range a (suc n) k (inl e) = omega arith
in_range a (suc n) k (inr i) = omega (arith, in_range (a + 1) n k i)

equal_or_above : (a k : ℕ) → a ≤ k → (a ≡ k) ⊎ (a + 1 ≤ k)
equal_or_above a k h = by_test (a == k) refl
  where
    by_test : (b : Bool) → (a == k) ≡ b → (a ≡ k) ⊎ (a + 1 ≤ k)
    by_test true e = inl (grind (arith, nat_tests, e))
    by_test false e = inr (grind (arith, nat_tests, e))

pub in_range-from : (a n k : ℕ) → a ≤ k → k < a + n → In (range_with_len a n) k
in_range-from a zero k low high = absurd (omega arith)
in_range-from a (suc n) k low high = elim (equal_or_above a k low) [ inl e ↦ inl e | inr h ↦ inr (in_range-from (a + 1) n k h (omega arith)) ]

pub rises-filter : (p : ℕ → Bool) (low : ℕ) (xs : List ℕ) → Rises low xs → Rises low (filter p xs)
rises-filter p low [] r = tt
rises-filter p low (x ∷ xs) r =
    let rest : Rises (x + 1) (filter p xs) = rises-filter p (x + 1) xs r.1 in
    elim (p x) as (λ b. Rises low (cond b (x ∷ filter p xs) (filter p xs))) [ true ↦ (r.0, rest) | false ↦ rises_lower low (x + 1) (filter p xs) (omega (arith, r.0)) rest ]

pub in_filter : (p : ℕ → Bool) (xs : List ℕ) (k : ℕ) → In (filter p xs) k → In xs k × (p k ≡ true)
in_filter p [] k i = absurd i
in_filter p (x ∷ xs) k i = by_test (p x) refl i (λ j. in_filter p xs k j)
  where
    by_test : (b : Bool) → p x ≡ b → In (cond b (x ∷ filter p xs) (filter p xs)) k → (In (filter p xs) k → In xs k × (p k ≡ true)) → In (x ∷ xs) k × (p k ≡ true)
    by_test true e (inl h) rest = (inl h, cc)
    by_test true e (inr h) rest = (inr (rest h).0, (rest h).1)
    by_test false e h rest = (inr (rest h).0, (rest h).1)

pub in_filter-from : (p : ℕ → Bool) (xs : List ℕ) (k : ℕ) → In xs k → p k ≡ true → In (filter p xs) k
in_filter-from p [] k i pass = absurd i
in_filter-from p (x ∷ xs) k (inl h) pass = let e : p x ≡ true = cc in rw e (inl h)
in_filter-from p (x ∷ xs) k (inr h) pass =
    let rest : In (filter p xs) k = in_filter-from p xs k h pass in
    elim (p x) as (λ b. In (cond b (x ∷ filter p xs) (filter p xs)) k) [ true ↦ inr rest | false ↦ rest ]

-- ---- one more member

pub rises-with_member : (s low : ℕ) (xs : List ℕ) → low ≤ s → Rises low xs → Rises low (with_member s xs)
rises-with_member s low [] h r = (h, tt)
rises-with_member s low (x ∷ xs) h r = by_tests (nat_lt s x) (s == x) refl refl (λ above. rises-with_member s (x + 1) xs above r.1)
  where
    by_tests : (b c : Bool) → nat_lt s x ≡ b → (s == x) ≡ c → (x + 1 ≤ s → Rises (x + 1) (with_member s xs)) → Rises low (cond b (s ∷ x ∷ xs) (cond c (x ∷ xs) (x ∷ with_member s xs)))
    by_tests true c e f rest = (h, (grind (arith, nat_tests, e), r.1))
    by_tests false true e f rest = r
    by_tests false false e f rest = (r.0, rest (grind (arith, nat_tests, e, f)))

pub in_with_member : (s : ℕ) (xs : List ℕ) (k : ℕ) → In (with_member s xs) k → (s ≡ k) ⊎ In xs k
in_with_member s [] k i = i
in_with_member s (x ∷ xs) k i = by_tests (nat_lt s x) (s == x) i (λ j. in_with_member s xs k j)
  where
    by_tests : (b c : Bool) → In (cond b (s ∷ x ∷ xs) (cond c (x ∷ xs) (x ∷ with_member s xs))) k → (In (with_member s xs) k → (s ≡ k) ⊎ In xs k) → (s ≡ k) ⊎ In (x ∷ xs) k
    by_tests true c j rest = j
    by_tests false true j rest = inr j
    by_tests false false (inl e) rest = inr (inl e)
    by_tests false false (inr j) rest = elim (rest j) [ inl e ↦ inl e | inr h ↦ inr (inr h) ]

pub in_with_member-from : (s : ℕ) (xs : List ℕ) (k : ℕ) → (s ≡ k) ⊎ In xs k → In (with_member s xs) k
in_with_member-from s [] k i = i
in_with_member-from s (x ∷ xs) k i = by_tests (nat_lt s x) (s == x) refl i (λ j. in_with_member-from s xs k j)
  where
    by_tests : (b c : Bool) → (s == x) ≡ c → (s ≡ k) ⊎ In (x ∷ xs) k → ((s ≡ k) ⊎ In xs k → In (with_member s xs) k) → In (cond b (s ∷ x ∷ xs) (cond c (x ∷ xs) (x ∷ with_member s xs))) k
    by_tests true c f j rest = j
    by_tests false true f (inl e) rest = inl (grind (arith, nat_tests, e, f))
    by_tests false true f (inr j) rest = j
    by_tests false false f (inl e) rest = inr (rest (inl e))
    by_tests false false f (inr (inl e)) rest = inl e
    by_tests false false f (inr (inr j)) rest = inr (rest (inr j))

-- a number above all others comes last
pub with_member-last : (s : ℕ) (xs : List ℕ) → ((k : ℕ) → In xs k → k < s) → with_member s xs ≡ xs ++ s ∷ []
with_member-last s [] above = refl
with_member-last s (x ∷ xs) above =
    let not_less : nat_lt s x ≡ false = grind (arith, nat_tests, above x (inl refl)) in
    let not_same : (s == x) ≡ false = grind (arith, nat_tests, above x (inl refl)) in
    rw (not_less, not_same) (ap (λ ys. x ∷ ys) (with_member-last s xs (λ k i. above k (inr i))))

-- ---- std's words

pub in-Contains : (xs : List ℕ) (k : ℕ) → Contains xs k → In xs k
in-Contains [] k h = absurd (omega (arith, h.1))
in-Contains (x ∷ xs) k (zero, h, e) = inl e
in-Contains (x ∷ xs) k (suc i, h, e) = inr (in-Contains xs k (i, omega arith, e))

pub Contains-in : (xs : List ℕ) (k : ℕ) → In xs k → Contains xs k
Contains-in [] k i = absurd i
Contains-in (x ∷ xs) k (inl e) = (0, omega arith, e)
Contains-in (x ∷ xs) k (inr i) = let found = Contains-in xs k i in (suc found.0, omega (arith, found.1), found.2)

pub rises-IsStrictlyIncreasing : (low : ℕ) (xs : List ℕ) → Rises low xs → IsStrictlyIncreasing xs
rises-IsStrictlyIncreasing low [] r k h = absurd (omega arith)
rises-IsStrictlyIncreasing low (x ∷ []) r k h = absurd (omega arith)
rises-IsStrictlyIncreasing low (x ∷ y ∷ ys) r zero h = omega (arith, r.1)
rises-IsStrictlyIncreasing low (x ∷ y ∷ ys) r (suc k) h = simp unary_clauses (simp unary_clauses at (rises-IsStrictlyIncreasing (x + 1) (y ∷ ys) r.1 k (omega arith)))
