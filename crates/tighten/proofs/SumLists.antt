-- Lists of sums, one place after another.
use Rattle.std.specs.Prelude.{◌≡◌, ◌≢◌, ℕ, ◌+◌, ◌<◌, ℤ, pos, ◌+ℤ◌, nat_eq, if◌then◌else◌, Bool, true, false, List, length, take, slice_index_or, slice_set, refl}
use Rattle.std.proofs.Common.{arith, ap, sym, ◌∙◌, subst, below_more}
use Rattle.std.proofs.lemmas.List.{get_or-set_same, get_or-set_other}
use Rattle.std.proofs.lemmas.Bool.Decides.{nat_tests}
use Rattle.std.proofs.lemmas.Int.{ints}
use Rattle.int_model.specs.Programs.{Terms, AreTerms}
use Rattle.int_model.specs.RowSums.{coefficient}
use Rattle.tighten.specs.Sums.{change}
use Rattle.tighten.proofs.SumChanges.{coefficient-more, coefficient-before}

-- one more place is filled
pub filled : {A : Type 0} (d : A) (P : ℕ → A → Type 0) (xs : List A) (k : ℕ) (v : A) → k < length xs → ((i : ℕ) → i < k → P i (slice_index_or xs i d)) → P k v → (i : ℕ) → i < k + 1 → P i (slice_index_or (slice_set xs k v) i d)
filled d P xs k v inside before here =
    below_more _ k
    (λ i h. let other : i ≢ k = omega arith in subst (P i) (sym (get_or-set_other xs k i v d other)) (before i h))
    (subst (P k) (sym (get_or-set_same xs k v d inside)) here)

-- ---- the terms of a column, one after another

change_zero : (u v : ℤ) → change u v (pos 0) ≡ pos 0
change_zero u v = omega (arith, ints)

choose_true : (b : Bool) (x y : ℤ) → b ≡ true → (if b then x else y) ≡ x
choose_true b x y e = rw e refl

choose_false : (b : Bool) (x y : ℤ) → b ≡ false → (if b then x else y) ≡ y
choose_false b x y e = rw e refl

pub own_term : (n : ℕ) (ts : Terms) (k : ℕ) (d : ℕ × ℤ) → AreTerms 0 n ts → k < length ts → coefficient (slice_index_or ts k d).0 (take (k + 1) ts) ≡ (slice_index_or ts k d).1
own_term n ts k d all inside =
    let j : ℕ = (slice_index_or ts k d).0 in
    let same : nat_eq (slice_index_or ts k d).0 (slice_index_or ts k d).0 ≡ true = grind (arith, nat_tests) in
    omega (arith, ints, coefficient-more ts (slice_index_or ts k d).0 k d inside, coefficient-before 0 n ts k d all inside, choose_true _ (slice_index_or ts k d).1 (pos 0) same)

pub other_term : (ts : Terms) (k i : ℕ) (d : ℕ × ℤ) → k < length ts → nat_eq (slice_index_or ts k d).0 i ≡ false → coefficient i (take (k + 1) ts) ≡ coefficient i (take k ts)
other_term ts k i d inside other =
    omega (arith, ints, coefficient-more ts i k d inside, choose_false _ (slice_index_or ts k d).1 (pos 0) other)

shift_own : (u v : ℤ) (n : ℕ) (ts : Terms) (k : ℕ) (d : ℕ × ℤ) (old now : List ℤ) (w : ℤ) → AreTerms 0 n ts → k < length ts → (slice_index_or ts k d).0 < length now → slice_index_or now (slice_index_or ts k d).0 (pos 0) ≡ slice_index_or old (slice_index_or ts k d).0 (pos 0) +ℤ change u v (coefficient (slice_index_or ts k d).0 (take k ts)) → w ≡ slice_index_or now (slice_index_or ts k d).0 (pos 0) +ℤ change u v (slice_index_or ts k d).1 → slice_index_or (slice_set now (slice_index_or ts k d).0 w) (slice_index_or ts k d).0 (pos 0) ≡ slice_index_or old (slice_index_or ts k d).0 (pos 0) +ℤ change u v (coefficient (slice_index_or ts k d).0 (take (k + 1) ts))
shift_own u v n ts k d old now w all inside place before is =
    let none : change u v (coefficient (slice_index_or ts k d).0 (take k ts)) ≡ pos 0 = ap (change u v) (coefficient-before 0 n ts k d all inside) ∙ change_zero u v in
    let own : change u v (coefficient (slice_index_or ts k d).0 (take (k + 1) ts)) ≡ change u v (slice_index_or ts k d).1 = ap (change u v) (own_term n ts k d all inside) in
    let set : slice_index_or (slice_set now (slice_index_or ts k d).0 w) (slice_index_or ts k d).0 (pos 0) ≡ w = get_or-set_same now (slice_index_or ts k d).0 w (pos 0) place in
    sums_to _ _ _ _ _ _ _ set is before none own
  where
    sums_to : (x w y z p q r : ℤ) → x ≡ w → w ≡ y +ℤ p → y ≡ z +ℤ q → q ≡ pos 0 → r ≡ p → x ≡ z +ℤ r
    sums_to x w y z p q r a b c e f = omega (arith, ints)

-- the sum of the term's row is moved by what the term changes
pub shift-step : (u v : ℤ) (n : ℕ) (ts : Terms) (k : ℕ) (d : ℕ × ℤ) (old now : List ℤ) (w : ℤ) → AreTerms 0 n ts → k < length ts → (slice_index_or ts k d).0 < length now → ((i : ℕ) → slice_index_or now i (pos 0) ≡ slice_index_or old i (pos 0) +ℤ change u v (coefficient i (take k ts))) → w ≡ slice_index_or now (slice_index_or ts k d).0 (pos 0) +ℤ change u v (slice_index_or ts k d).1 → (i : ℕ) → slice_index_or (slice_set now (slice_index_or ts k d).0 w) i (pos 0) ≡ slice_index_or old i (pos 0) +ℤ change u v (coefficient i (take (k + 1) ts))
shift-step u v n ts k d old now w all inside place before is i = at (nat_eq (slice_index_or ts k d).0 i) refl
  where
    at : (b : Bool) → nat_eq (slice_index_or ts k d).0 i ≡ b → slice_index_or (slice_set now (slice_index_or ts k d).0 w) i (pos 0) ≡ slice_index_or old i (pos 0) +ℤ change u v (coefficient i (take (k + 1) ts))
    at true e =
        let same : (slice_index_or ts k d).0 ≡ i = grind (arith, nat_tests) in
        subst (λ (r : ℕ). slice_index_or (slice_set now (slice_index_or ts k d).0 w) r (pos 0) ≡ slice_index_or old r (pos 0) +ℤ change u v (coefficient r (take (k + 1) ts))) same
        (shift_own u v n ts k d old now w all inside place (before (slice_index_or ts k d).0) is)
    at false e =
        let other : i ≢ (slice_index_or ts k d).0 = grind (arith, nat_tests) in
        get_or-set_other now (slice_index_or ts k d).0 i w (pos 0) other ∙ before i ∙ sym (ap (λ (a : ℤ). slice_index_or old i (pos 0) +ℤ change u v a) (other_term ts k i d inside e))

-- the sum of the term's row before it is moved
pub unmoved : (u v : ℤ) (n : ℕ) (ts : Terms) (k : ℕ) (d : ℕ × ℤ) (x z : ℤ) → AreTerms 0 n ts → k < length ts → x ≡ z +ℤ change u v (coefficient (slice_index_or ts k d).0 (take k ts)) → x ≡ z
unmoved u v n ts k d x z all inside e =
    let none : change u v (coefficient (slice_index_or ts k d).0 (take k ts)) ≡ pos 0 = ap (change u v) (coefficient-before 0 n ts k d all inside) ∙ change_zero u v in
    adds_none _ _ _ e none
  where
    adds_none : (x z q : ℤ) → x ≡ z +ℤ q → q ≡ pos 0 → x ≡ z
    adds_none x z q a b = omega (arith, ints)
