-- Products within the limits, and one term more of a sum.
use Rattle.std.proofs.Common.{◌≡◌, ◌∙◌, ap, sym, ℕ, ◌+◌, ◌^◌, ◌<◌, ◌≤◌, ℤ, ◌+ℤ◌, ◌*ℤ◌, unsigned_abs, List, [], ◌∷◌, length, get_or, drop, arith, zero, suc, FitsSigned, w64, to_z, of_z, ◌↔◌, subst, map, Some, slice_get, slice_index_or}
use Rattle.std.proofs.Math.Nat.{mul-le-mul}
use Rattle.std.proofs.lemmas.Int.{ints, unsigned_abs-mul, fits_signed_from_abs, to_z-of_z}
use Rattle.std.proofs.lemmas.List.{drop_more}
use Rattle.int_model.specs.Limits.{IsBound, IsEntry}
use Rattle.int_model.specs.Programs.{Terms, AreTerms, CostsWithin, IsBetween, MeetsRows, row_sum}
use Rattle.int_model.specs.Integers.{int_at, dot}
use Rattle.int_model.specs.declared.model.Row.{Row}
use Rattle.int_model.specs.declared.model.Ends.{Ends}
use Rattle.scenario_changes.proofs.NumberLemmas.{at-place}

pub product_limit : (a b : ℤ) → IsEntry a → IsBound b → unsigned_abs (a *ℤ b) ≤ 10 ^ 15
product_limit a b ha hb = rw unsigned_abs-mul (mul-le-mul ha hb)

-- a product as the code has it, by way of bits
pub product_kept : (a b r : ℤ) → IsEntry a → IsBound b → r ≡ b → to_z w64 (of_z w64 (to_z w64 (of_z w64 a) *ℤ to_z w64 (of_z w64 r))) ≡ a *ℤ b
product_kept a b r ha hb same =
    let a_fits : FitsSigned w64 a = omega (arith, ints) in
    let b_fits : FitsSigned w64 b = omega (arith, ints) in
    let fits : FitsSigned w64 (a *ℤ b) = fits_signed_from_abs w64 (a *ℤ b) (omega (arith, product_limit a b ha hb)) in
    rw (same, to_z-of_z w64 a a_fits, to_z-of_z w64 b b_fits) (to_z-of_z w64 (a *ℤ b) fits)

-- what holds of a term at its place
pub record IsTerm (n : ℕ) (t : ℕ × ℤ) : Type 0 where
  pub column : t.0 < n
  pub entry : IsEntry t.1

pub term_at : (least n : ℕ) (ts : Terms) (i : ℕ) (d : ℕ × ℤ) → AreTerms least n ts → i < length ts → IsTerm n (get_or ts i d)
term_at least n [] i d all h = absurd (omega arith)
term_at least n (t ∷ ts) zero d all h = record { column = all.1; entry = all.2 }
term_at least n (t ∷ ts) (suc i) d all h = term_at (t.0 + 1) n ts i d all.4 (omega arith)

-- columns rise, so there are no more terms than columns
pub few_terms : (least n : ℕ) (ts : Terms) → AreTerms least n ts → least ≤ n → length ts + least ≤ n
few_terms least n [] all le = omega arith
few_terms least n (t ∷ ts) all le = omega (arith, few_terms (t.0 + 1) n ts all.4 (omega (arith, all.1)), all.0)

row_sum-drop : (ts : Terms) (x : List ℤ) (i : ℕ) (d : ℕ × ℤ) → i < length ts → row_sum (drop i ts) x ≡ (get_or ts i d).1 *ℤ int_at x (get_or ts i d).0 +ℤ row_sum (drop (i + 1) ts) x
row_sum-drop ts x i d h = ap (λ (us : Terms). row_sum us x) (drop_more ts i d h)

-- one term more
pub row_sum-more : (ts : Terms) (x : List ℤ) (i : ℕ) (d : ℕ × ℤ) (s r t : ℤ) → i < length ts → row_sum ts x ≡ s +ℤ row_sum (drop i ts) x → r ≡ (get_or ts i d).1 *ℤ int_at x (get_or ts i d).0 → t ≡ s +ℤ r → row_sum ts x ≡ t +ℤ row_sum (drop (i + 1) ts) x
row_sum-more ts x i d s r t h before is after = omega (arith, ints, before, after, is, row_sum-drop ts x i d h)

-- a cost at its place, and one product more
pub cost_at : (most : ℕ) (costs : List ℤ) (j : ℕ) (d : ℤ) → CostsWithin most costs → j < length costs → unsigned_abs (get_or costs j d) ≤ most
cost_at most [] j d all h = absurd (omega arith)
cost_at most (c ∷ costs) zero d all h = all.0
cost_at most (c ∷ costs) (suc j) d all h = cost_at most costs j d all.1 (omega arith)

dot-drop : (costs x : List ℤ) (j : ℕ) (d : ℤ) → j < length costs → j < length x → dot (drop j costs) (drop j x) ≡ get_or costs j d *ℤ get_or x j d +ℤ dot (drop (j + 1) costs) (drop (j + 1) x)
dot-drop costs x j d h k = ap (λ (cs : List ℤ). dot cs (drop j x)) (drop_more costs j d h) ∙ ap (λ (ys : List ℤ). dot (get_or costs j d ∷ drop (j + 1) costs) ys) (drop_more x j d k)

pub dot-more : (costs x : List ℤ) (j : ℕ) (d s r t : ℤ) → j < length costs → j < length x → dot costs x ≡ s +ℤ dot (drop j costs) (drop j x) → r ≡ get_or costs j d *ℤ get_or x j d → t ≡ s +ℤ r → dot costs x ≡ t +ℤ dot (drop (j + 1) costs) (drop (j + 1) x)
dot-more costs x j d s r t h k before is after = omega (arith, ints, before, after, is, dot-drop costs x j d h k)

-- ---- rows one after another

abbrev pub terms_of : List Row → List Terms
terms_of rows = map (λ (i : Row). i.terms) rows

meets-both : (rows more : List Row) (ends others : List Ends) (x : List ℤ) → rows ≡ more → ends ≡ others → MeetsRows (terms_of rows) ends x → MeetsRows (terms_of more) others x
meets-both rows more ends others x a b h =
    subst (λ (es : List Ends). MeetsRows (terms_of more) es x) b (subst (λ (rs : List Row). MeetsRows (terms_of rs) ends x) a h)

pub record FirstRow (rows : List Row) (ends : List Ends) (i : ℕ) (row : Row) : Type 0 where
  pub in_rows : i < length rows
  pub in_ends : i < length ends
  pub read : slice_get rows i ≡ Some row

pub meets-first : (rows : List Row) (ends : List Ends) (x : List ℤ) (i : ℕ) (row : Row) (d : Ends) (z : ℤ) → FirstRow rows ends i row → z ≡ row_sum row.terms x → MeetsRows (terms_of (drop i rows)) (drop i ends) x → IsBetween (slice_index_or ends i d) z × MeetsRows (terms_of (drop (i + 1) rows)) (drop (i + 1) ends) x
meets-first rows ends x i row d z f e h =
    let both = meets-both (drop i rows) (row ∷ drop (i + 1) rows) (drop i ends) (slice_index_or ends i d ∷ drop (i + 1) ends) x (at-place rows i row f.in_rows f.read) (drop_more ends i d f.in_ends) h in
    (subst (IsBetween (slice_index_or ends i d)) (sym e) both.0, both.1)

pub meets-step : (P : Type 0) (rows : List Row) (ends : List Ends) (x : List ℤ) (i : ℕ) (row : Row) (d : Ends) (z : ℤ) → FirstRow rows ends i row → z ≡ row_sum row.terms x → IsBetween (slice_index_or ends i d) z → (P ↔ MeetsRows (terms_of (drop i rows)) (drop i ends) x) → (P ↔ MeetsRows (terms_of (drop (i + 1) rows)) (drop (i + 1) ends) x)
meets-step P rows ends x i row d z f e between both = (
  λ p. (meets-first rows ends x i row d z f e (both.0 p)).1,
  λ q. both.1 (meets-both (row ∷ drop (i + 1) rows) (drop i rows) (slice_index_or ends i d ∷ drop (i + 1) ends) (drop i ends) x (sym (at-place rows i row f.in_rows f.read)) (sym (drop_more ends i d f.in_ends)) (subst (IsBetween (slice_index_or ends i d)) e between, q)),
)
