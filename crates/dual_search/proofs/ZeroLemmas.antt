-- The reduced costs where no multiplier counts.
use Rattle.std.specs.Prelude.{◌≡◌, ℕ, zero, suc, ◌+◌, ◌<◌, ℤ, pos, ◌*ℤ◌, List, [], ◌∷◌, ◌++◌, length, slice_index_or, replicate, refl}
use Rattle.std.proofs.Common.{arith, ap, sym, subst, ◌∙◌, below_more}
use Rattle.std.proofs.lemmas.Int.{ints}
use Rattle.std.proofs.lemmas.List.{get_or_append_left, get_or_push}
use Rattle.int_model.specs.Integers.{int_at}
use Rattle.int_model.specs.Programs.{Program}
use Rattle.dual_bounds.specs.Vectors.{Entry, counted, reduced_cost}
use Rattle.dual_search.specs.Gains.{entries_of, AreReduced}
use Rattle.dual_search.specs.declared.reduced_costs.ReducedCosts.{ReducedCosts}
use Rattle.dual_search.proofs.EntryLemmas.{zero-entries}

-- the costs of a program, times a scale
pub record IsScaled (p : Program) (scale : ℕ) (reduced : List ℤ) : Type 0 where
  pub count : length reduced ≡ length p.costs
  pub values : (j : ℕ) → j < length p.costs → int_at reduced j ≡ pos scale *ℤ int_at p.costs j

pub no-entries : (k : ℕ) (ys : List ℤ) → ((i : ℕ) → int_at ys i ≡ pos 0) → entries_of k ys ≡ []
no-entries k [] none = refl
no-entries k (y ∷ ys) none = zero-entries k y ys (none 0) ∙ no-entries (suc k) ys (λ i. none (suc i))

pub scaled-reduced : (p : Program) (scale : ℕ) (ys reduced : List ℤ) → ((i : ℕ) → int_at ys i ≡ pos 0) → IsScaled p scale reduced → AreReduced p scale ys reduced
scaled-reduced p scale ys reduced none all = record {
  count = all.count;
  values = λ j h.
      let plain : int_at reduced j ≡ reduced_cost p.rows scale (counted p.ends []) j (int_at p.costs j) = all.values j h ∙ omega (arith, ints) in
      plain ∙ ap (λ (es : List Entry). reduced_cost p.rows scale (counted p.ends es) j (int_at p.costs j)) (sym (no-entries 0 ys none));
}

pub zeros-at : (n i : ℕ) → int_at (replicate n (pos 0)) i ≡ pos 0
zeros-at zero i = refl
zeros-at (suc n) zero = refl
zeros-at (suc n) (suc i) = zeros-at n i

-- one more behind a list of reduced costs
pub pushed-costs : (P : ℕ → ReducedCosts → Type 0) (xs ys : List ReducedCosts) (r : ReducedCosts) (k : ℕ) → length xs ≡ k → ys ≡ xs ++ r ∷ [] → ((i : ℕ) (d : ReducedCosts) → i < k → P i (slice_index_or xs i d)) → P k r → (i : ℕ) (d : ReducedCosts) → i < k + 1 → P i (slice_index_or ys i d)
pushed-costs P xs ys r k n e before here i d h =
    below_more (λ j. P j (slice_index_or ys j d)) k
    (λ j g. let inside : j < length xs = omega (arith, n, g) in subst (P j) (sym (ap (λ (l : List ReducedCosts). slice_index_or l j d) e ∙ get_or_append_left xs (r ∷ []) d j inside)) (before j d g))
    (subst (P k) (sym (ap (λ (l : List ReducedCosts). slice_index_or l k d) e ∙ get_or_push xs r d k n)) here) i h
