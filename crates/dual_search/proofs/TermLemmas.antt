-- Terms of rows, one after another.
use Rattle.std.specs.Prelude.{◌≡◌, ◌≢◌, ℕ, zero, suc, ◌+◌, ◌<◌, ◌≤◌, ℤ, pos, ◌+ℤ◌, ◌-ℤ◌, ◌*ℤ◌, unsigned_abs, Bool, List, [], ◌∷◌, ◌++◌, length, slice_index_or, slice_set, drop, true, false, nat_eq, refl}
use Rattle.std.proofs.Common.{arith, ap, sym, subst, ◌∙◌, drop_of_length-le, below_more}
use Rattle.std.proofs.lemmas.List.{get_or-set_same, get_or-set_other, get_or_append_left, get_or_push}
use Rattle.std.proofs.lemmas.Bool.Decides.{nat_tests}
use Rattle.std.proofs.lemmas.Int.{ints}
use Rattle.std.proofs.Math.Seq.{drop-cons}
use Rattle.int_model.specs.Integers.{int_sum_by, int_at}
use Rattle.int_model.specs.Boxes.{Box, interval_at}
use Rattle.int_model.specs.Limits.{IsEntry}
use Rattle.int_model.specs.Programs.{Terms, AreTerms, CostsWithin}
use Rattle.int_model.specs.RowSums.{coefficient, least_product}
use Rattle.int_model.proofs.IntegerLaws.{mul-add}
use Rattle.dual_search.specs.Gains.{column_gain}

-- what holds of a term
pub record IsTerm (n : ℕ) (t : ℕ × ℤ) : Type 0 where
  pub column : t.0 < n
  pub entry : IsEntry t.1

pub term-at : (least n : ℕ) (ts : Terms) (k : ℕ) (d : ℕ × ℤ) → AreTerms least n ts → k < length ts → IsTerm n (slice_index_or ts k d)
term-at least n [] k d all h = absurd (omega arith)
term-at least n (t ∷ ts) zero d all h = record { column = all.1; entry = all.2 }
term-at least n (t ∷ ts) (suc k) d all h = term-at (t.0 + 1) n ts k d all.4 (omega arith)

-- ---- sums over a list

pub sum-more : {A : Type 0} (f : A → ℤ) (ts : List A) (k : ℕ) (d : A) (whole s r t : ℤ) → k < length ts → whole ≡ s +ℤ int_sum_by f (drop k ts) → r ≡ f (slice_index_or ts k d) → t ≡ s +ℤ r → whole ≡ t +ℤ int_sum_by f (drop (suc k) ts)
sum-more f ts k d whole s r t h before is after =
    let step : int_sum_by f (drop k ts) ≡ f (slice_index_or ts k d) +ℤ int_sum_by f (drop (suc k) ts) = ap (int_sum_by f) (drop-cons ts k d h) in
    omega (arith, ints, before, is, after, step)

pub sum-end : {A : Type 0} (f : A → ℤ) (ts : List A) (k : ℕ) (whole s : ℤ) → length ts ≤ k → whole ≡ s +ℤ int_sum_by f (drop k ts) → whole ≡ s
sum-end f ts k whole s h before =
    let none : int_sum_by f (drop k ts) ≡ pos 0 = ap (int_sum_by f) (drop_of_length-le ts h) in
    omega (arith, ints, before, none)

pub cost-within : (most : ℕ) (costs : List ℤ) (j : ℕ) → CostsWithin most costs → j < length costs → unsigned_abs (int_at costs j) ≤ most
cost-within most [] j all h = absurd (omega arith)
cost-within most (c ∷ costs) zero all h = all.0
cost-within most (c ∷ costs) (suc j) all h = cost-within most costs j all.1 (omega arith)

-- ---- coefficients

term-miss : (j : ℕ) (t : ℕ × ℤ) (ts : Terms) → nat_eq t.0 j ≡ false → coefficient j (t ∷ ts) ≡ coefficient j ts
term-miss j t ts e = rw e (omega (arith, ints))

term-hit : (j : ℕ) (t : ℕ × ℤ) (ts : Terms) → nat_eq t.0 j ≡ true → coefficient j (t ∷ ts) ≡ t.1 +ℤ coefficient j ts
term-hit j t ts e = rw e refl

pub coefficient-other : (j : ℕ) (t : ℕ × ℤ) (ts : Terms) → t.0 ≢ j → coefficient j (t ∷ ts) ≡ coefficient j ts
coefficient-other j t ts ne = let e : nat_eq t.0 j ≡ false = grind (arith, nat_tests, ne) in term-miss j t ts e

pub coefficient-own : (j : ℕ) (t : ℕ × ℤ) (ts : Terms) → t.0 ≡ j → coefficient j (t ∷ ts) ≡ t.1 +ℤ coefficient j ts
coefficient-own j t ts eq = let e : nat_eq t.0 j ≡ true = grind (arith, nat_tests, eq) in term-hit j t ts e

-- ---- numbers that grow by a step times the coefficients, one term after another

shifted_own : (s : ℤ) (t : ℕ × ℤ) (rest : Terms) (now : List ℤ) (w : ℤ) → t.0 < length now → w ≡ int_at now t.0 -ℤ s *ℤ t.1 → int_at now t.0 -ℤ s *ℤ coefficient t.0 (t ∷ rest) ≡ int_at (slice_set now t.0 w) t.0 -ℤ s *ℤ coefficient t.0 rest
shifted_own s t rest now w inside is =
    let set : int_at (slice_set now t.0 w) t.0 ≡ w = get_or-set_same now t.0 w (pos 0) inside in
    let own : s *ℤ coefficient t.0 (t ∷ rest) ≡ s *ℤ (t.1 +ℤ coefficient t.0 rest) = ap (λ (z : ℤ). s *ℤ z) (coefficient-own t.0 t rest refl) in
    sums_to _ w (int_at now t.0) (s *ℤ t.1) (s *ℤ coefficient t.0 rest) (s *ℤ coefficient t.0 (t ∷ rest)) set is (own ∙ mul-add s t.1 (coefficient t.0 rest))
  where
    sums_to : (x w y p q r : ℤ) → x ≡ w → w ≡ y -ℤ p → r ≡ p +ℤ q → y -ℤ r ≡ x -ℤ q
    sums_to x w y p q r a b e = omega (arith, ints)

shifted_other : (s : ℤ) (t : ℕ × ℤ) (rest : Terms) (now : List ℤ) (w : ℤ) (j : ℕ) → t.0 ≢ j → int_at now j -ℤ s *ℤ coefficient j (t ∷ rest) ≡ int_at (slice_set now t.0 w) j -ℤ s *ℤ coefficient j rest
shifted_other s t rest now w j ne =
    let other : j ≢ t.0 = omega (arith, ne) in
    ap (λ (z : ℤ). int_at now j -ℤ s *ℤ z) (coefficient-other j t rest ne)
    ∙ ap (λ (z : ℤ). z -ℤ s *ℤ coefficient j rest) (sym (get_or-set_other now t.0 j w (pos 0) other))

pub shifted-one : (s : ℤ) (t : ℕ × ℤ) (rest : Terms) (now : List ℤ) (w : ℤ) (j : ℕ) → t.0 < length now → w ≡ int_at now t.0 -ℤ s *ℤ t.1 → int_at now j -ℤ s *ℤ coefficient j (t ∷ rest) ≡ int_at (slice_set now t.0 w) j -ℤ s *ℤ coefficient j rest
shifted-one s t rest now w j inside is = at (nat_eq t.0 j) refl
  where
    at : (b : Bool) → nat_eq t.0 j ≡ b → int_at now j -ℤ s *ℤ coefficient j (t ∷ rest) ≡ int_at (slice_set now t.0 w) j -ℤ s *ℤ coefficient j rest
    at true e =
        let same : t.0 ≡ j = grind (arith, nat_tests) in
        subst (λ (i : ℕ). int_at now i -ℤ s *ℤ coefficient i (t ∷ rest) ≡ int_at (slice_set now t.0 w) i -ℤ s *ℤ coefficient i rest) same (shifted_own s t rest now w inside is)
    at false e =
        let ne : t.0 ≢ j = grind (arith, nat_tests) in
        shifted_other s t rest now w j ne

pub shift-step : (s : ℤ) (ts : Terms) (k : ℕ) (d : ℕ × ℤ) (now : List ℤ) (whole w : ℤ) (j : ℕ) → k < length ts → (slice_index_or ts k d).0 < length now → whole ≡ int_at now j -ℤ s *ℤ coefficient j (drop k ts) → w ≡ int_at now (slice_index_or ts k d).0 -ℤ s *ℤ (slice_index_or ts k d).1 → whole ≡ int_at (slice_set now (slice_index_or ts k d).0 w) j -ℤ s *ℤ coefficient j (drop (suc k) ts)
shift-step s ts k d now whole w j h inside before is =
    before
    ∙ ap (λ (l : Terms). int_at now j -ℤ s *ℤ coefficient j l) (drop-cons ts k d h)
    ∙ shifted-one s (slice_index_or ts k d) (drop (suc k) ts) now w j inside is

pub shift-end : (s : ℤ) (ts : Terms) (k j : ℕ) (now whole : ℤ) → length ts ≤ k → whole -ℤ s *ℤ coefficient j ts ≡ now -ℤ s *ℤ coefficient j (drop k ts) → now ≡ whole -ℤ s *ℤ coefficient j ts
shift-end s ts k j now whole h before =
    let none : coefficient j (drop k ts) ≡ pos 0 = ap (coefficient j) (drop_of_length-le ts h) in
    let nothing : s *ℤ coefficient j (drop k ts) ≡ pos 0 = ap (λ (z : ℤ). s *ℤ z) none ∙ omega (arith, ints) in
    omega (arith, ints, before, nothing)

-- a limit on all numbers of a list, after one was set
pub limit-set : (now : List ℤ) (i : ℕ) (w : ℤ) (most more : ℕ) → i < length now → most ≤ more → ((j : ℕ) → unsigned_abs (int_at now j) ≤ most) → unsigned_abs w ≤ more → (j : ℕ) → unsigned_abs (int_at (slice_set now i w) j) ≤ more
limit-set now i w most more inside le all small j = at (nat_eq i j) refl
  where
    at : (b : Bool) → nat_eq i j ≡ b → unsigned_abs (int_at (slice_set now i w) j) ≤ more
    at true e =
        let same : i ≡ j = grind (arith, nat_tests) in
        subst (λ (k : ℕ). unsigned_abs (int_at (slice_set now i w) k) ≤ more) same (rw (get_or-set_same now i w (pos 0) inside) small)
    at false e =
        let other : j ≢ i = grind (arith, nat_tests) in
        rw (get_or-set_other now i j w (pos 0) other) (omega (arith, all j, le))

-- one more number behind a list
pub pushed : (P : ℕ → ℤ → Type 0) (xs ys : List ℤ) (v : ℤ) (k : ℕ) → length xs ≡ k → ys ≡ xs ++ v ∷ [] → ((j : ℕ) → j < k → P j (int_at xs j)) → P k v → (j : ℕ) → j < k + 1 → P j (int_at ys j)
pushed P xs ys v k n e before here =
    below_more _ k
    (λ j h. let inside : j < length xs = omega (arith, n, h) in subst (P j) (sym (ap (λ (l : List ℤ). int_at l j) e ∙ get_or_append_left xs (v ∷ []) (pos 0) j inside)) (before j h))
    (subst (P k) (sym (ap (λ (l : List ℤ). int_at l k) e ∙ get_or_push xs v (pos 0) k n)) here)

-- ---- a multiplier that stays gains nothing

pub no-step : (reduced : List ℤ) (box : Box) (ts : Terms) → int_sum_by (column_gain (pos 0) reduced box) ts ≡ pos 0
no-step reduced box [] = refl
no-step reduced box (t ∷ ts) =
    let same : int_at reduced t.0 -ℤ pos 0 *ℤ t.1 ≡ int_at reduced t.0 = omega (arith, ints) in
    let own : column_gain (pos 0) reduced box t ≡ pos 0 = ap (λ (z : ℤ). least_product z (interval_at box t.0) -ℤ least_product (int_at reduced t.0) (interval_at box t.0)) same ∙ omega (arith, ints) in
    omega (arith, ints, own, no-step reduced box ts)
