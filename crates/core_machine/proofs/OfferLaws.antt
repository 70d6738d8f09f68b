-- Offers of feasible points.
use Rattle.std.specs.Prelude.{◌≡◌, ℕ, zero, suc, ◌<◌, ◌^◌, ℤ, ◌≤ℤ◌, List, [], ◌∷◌, length, slice_get, slice_index_or, Option, Some, All, refl}
use Rattle.std.proofs.Common.{arith, ap, sym, ◌∙◌, subst}
use Rattle.std.proofs.lemmas.Int.{ints}
use Rattle.std.proofs.lemmas.List.Elements.{All-nil, All-cons}
use Rattle.int_model.specs.Limits.{IsBound}
use Rattle.int_model.specs.Boxes.{Box, InBox, BoundsWithin}
use Rattle.int_model.specs.Programs.{Program, Feasible, value}
use Rattle.scenario_changes.specs.Problems.{Problem, AreWithin, program_at}
use Rattle.certs.specs.declared.level.Level.TheVariants.{Value}
use Rattle.bb_core.specs.Machine.{FeasibleFor, level_of, level_for}
use Rattle.bb_core.proofs.ListWrites.{get-below}

-- the program of a scenario that there is
got : (ss : List Program) (k : ℕ) (d s : Program) → slice_get ss k ≡ Some s → slice_index_or ss k d ≡ s
got [] k d s e = absurd (cc)
got (t ∷ ss) zero d s e = cc
got (t ∷ ss) (suc k) d s e = got ss k d s e

found : (ss : List Program) (k : ℕ) (d : Program) → k < length ss → slice_get ss k ≡ Some (slice_index_or ss k d)
found [] k d h = absurd (omega arith)
found (t ∷ ss) zero d h = refl
found (t ∷ ss) (suc k) d h = found ss k d (omega arith)

pub feasible-below : (p : Problem) (k : ℕ) (x : List ℤ) → FeasibleFor p k x → k < length p.scenarios
feasible-below p k x f = get-below p.scenarios k f.0 f.1

pub feasible-at : (p : Problem) (k : ℕ) (x : List ℤ) → FeasibleFor p k x → Feasible (program_at p k) x
feasible-at p k x f = subst (λ (s : Program). Feasible s x) (sym (got p.scenarios k _ f.0 f.1)) f.2

pub feasible-for : (p : Problem) (k : ℕ) (x : List ℤ) → k < length p.scenarios → Feasible (program_at p k) x → FeasibleFor p k x
feasible-for p k x l f = (program_at p k, found p.scenarios k _ l, f)

-- ---- a feasible point has a number for each column, and each is small

in_box-length : (box : Box) (x : List ℤ) → InBox box x → length x ≡ length box
in_box-length [] [] h = refl
in_box-length [] (v ∷ x) h = absurd h
in_box-length (i ∷ box) [] h = absurd h
in_box-length (i ∷ box) (v ∷ x) h = ap suc (in_box-length box x h.2)

between : (l h v : ℤ) → IsBound l → IsBound h → l ≤ℤ v → v ≤ℤ h → IsBound v
between l h v a b c d = omega (arith, ints, c, d)

in_box-small : (box : Box) (x : List ℤ) → BoundsWithin (10 ^ 6) box → InBox box x → All IsBound x
in_box-small [] [] w h = All-nil IsBound
in_box-small [] (v ∷ x) w h = absurd h
in_box-small (i ∷ box) [] w h = absurd h
in_box-small (i ∷ box) (v ∷ x) w h = All-cons IsBound v x (between i.low i.high v w.0 w.1 h.0 h.1) (in_box-small box x w.2 h.2)

module _ (p : Problem) (within : AreWithin p) (k : ℕ) (x : List ℤ) (f : FeasibleFor p k x) where
  pub feasible-columns : length x ≡ p.columns
  feasible-columns = in_box-length (program_at p k).bounds x (feasible-at p k x f).within ∙ (within.programs k _ (feasible-below p k x f)).shape.bounds

  pub feasible-small : All IsBound x
  feasible-small = in_box-small (program_at p k).bounds x (within.programs k _ (feasible-below p k x f)).limits.bounds (feasible-at p k x f).within

  pub level-is : (v : ℤ) → v ≡ value (program_at p k) x → Value v ≡ level_of p k x
  level-is v e = ap Value (e ∙ ap (λ (s : Program). value s x) (got p.scenarios k _ f.0 f.1)) ∙ sym (ap (λ (o : Option Program). level_for o x) f.1)
