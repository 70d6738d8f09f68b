-- Points of scenarios, and cuts that they reach. Tests alone use these laws.
use Rattle.std.proofs.Common.{◌≡◌, refl, ℕ, zero, suc, ◌+◌, ◌<◌, ◌≤◌, ◌^◌, ℤ, ◌≤ℤ◌, List, [], ◌∷◌, length, Option, Some, All, ap, sym, subst, ◌∙◌, arith}
use Rattle.std.specs.Prelude.{None, IsTrue, slice_get, slice_index_or}
use Rattle.std.proofs.lemmas.Int.{ints}
use Rattle.std.proofs.lemmas.List.Elements.{All-nil, All-cons}
use Rattle.int_model.specs.Limits.{IsBound}
use Rattle.int_model.specs.Boxes.{Box, InBox, BoundsWithin}
use Rattle.int_model.specs.Programs.{Feasible, value}
use native.Mathlib.Decide.{ℕ_discrete}
use Rattle.scenario_changes.specs.Problems.{Problem, Scenarios, AreWithin, program_at}
use Rattle.scenario_changes.specs.Problems as problems
use Rattle.certs.specs.Levels.{level_le, cap_level}
use Rattle.certs.specs.declared.level.Level.TheVariants.{Value}
use Rattle.node_work.specs.Probes.{Found}
use Rattle.node_work.specs.Stayers.{CutsAreReached}

in_box-length : (box : Box) (x : List ℤ) → InBox box x → length x ≡ length box
in_box-length [] [] h = refl
in_box-length [] (v ∷ x) h = absurd h
in_box-length (i ∷ box) [] h = absurd h
in_box-length (i ∷ box) (v ∷ x) h = ap suc (in_box-length box x h.2)

between : (l h v : ℤ) → IsBound l → IsBound h → l ≤ℤ v → v ≤ℤ h → IsBound v
between l h v a b c d = omega (arith, ints, c, d)

in_box-small : (box : Box) (x : List ℤ) → BoundsWithin (10 ^ 6) box → InBox box x → All IsBound x
in_box-small [] [] w h = All-nil IsBound
in_box-small [] (v ∷ x) w h = absurd h
in_box-small (i ∷ box) [] w h = absurd h
in_box-small (i ∷ box) (v ∷ x) w h = All-cons IsBound v x (between i.low i.high v w.0 w.1 h.0 h.1) (in_box-small box x w.2 h.2)

module _ (p : Scenarios) (s : ℕ) (x : List ℤ) (within : AreWithin (problems.problem p)) (in_range : s < length (problems.problem p).scenarios) (feasible : Feasible (program_at (problems.problem p) s) x) where
  pub feasible-columns : length x ≡ length p.model.columns
  feasible-columns = in_box-length (program_at (problems.problem p) s).bounds x feasible.within ∙ (within.programs s _ in_range).shape.bounds

  pub feasible-small : All IsBound x
  feasible-small = in_box-small (program_at (problems.problem p) s).bounds x (within.programs s _ in_range).limits.bounds feasible.within

-- ---- the points that are looked at so far

-- the cut of scenario k is at most the value of the point
abbrev pub IsReached : Problem → List (Option ℤ) → ℕ → List ℤ → Type 0
IsReached p cuts k x = IsTrue (level_le (cap_level (slice_index_or cuts k None)) (Value (value (program_at p k) x)))

abbrev pub ReachedSoFar : Problem → Found → List (Option ℤ) → ℕ → Type 0
ReachedSoFar p found cuts n = (i k : ℕ) (x : List ℤ) → i < n → slice_get found i ≡ Some (k, x) → IsReached p cuts k x

some_same : {X : Type 0} {a b : X} → ◌≡◌ {A = Option X} (Some a) (Some b) → a ≡ b
some_same e = cc

get_below : {X : Type 0} (xs : List X) (i : ℕ) (x : X) → slice_get xs i ≡ Some x → i < length xs
get_below [] i x e = absurd (cc)
get_below (y ∷ xs) zero x e = omega arith
get_below (y ∷ xs) (suc i) x e = (let l : i < length xs = get_below xs i x e in omega (arith, l))

pub get_here : {X : Type 0} (xs : List X) (i : ℕ) (x : X) → i < length xs → x ≡ slice_index_or xs i x → slice_get xs i ≡ Some x
get_here [] i x l e = absurd (omega (arith, l))
get_here (y ∷ xs) zero x l e = ap Some (sym e)
get_here (y ∷ xs) (suc i) x l e = get_here xs i x (omega (arith, l)) e

module _ (p : Problem) (found : Found) (cuts : List (Option ℤ)) (n : ℕ) (h : ReachedSoFar p found cuts n) where
  pub reached_next : (s : ℕ) (point : List ℤ) → slice_get found n ≡ Some (s, point) → IsReached p cuts s point → ReachedSoFar p found cuts (n + 1)
  reached_next s point there r i k x l e = elim (ℕ_discrete i n) [
    | yes q ↦ (
        let same : ◌≡◌ {A = Option (ℕ × List ℤ)} (Some (s, point)) (Some (k, x)) = sym there ∙ sym (ap (slice_get found) q) ∙ e in
        let pair : ◌≡◌ {A = ℕ × List ℤ} (s, point) (k, x) = some_same same in
        subst (λ (t : ℕ × List ℤ). IsReached p cuts t.0 t.1) pair r)
    | no f ↦ h i k x (omega (arith, l, f)) e
  ]

  pub reached_all : length found ≤ n → CutsAreReached p found cuts
  reached_all l i k x e = (let b : i < length found = get_below found i (k, x) e in h i k x (omega (arith, l, b)) e)
