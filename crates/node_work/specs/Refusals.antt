-- Why live scenarios don't remain at a node, and the boxes of those that do.
use Rattle.std.specs.Prelude.{◌≡◌, ℕ, true, false, nat_eq, if◌then◌else◌, List, [], ◌∷◌, length, Option, Some, None, IsSome}
use Rattle.int_model.specs.Boxes.{Box, is_empty, is_single}
use Rattle.int_model.specs.Programs.{Feasible}
use Rattle.tighten.specs.declared.step.Step.{Step}
use Rattle.dual_bounds.specs.Vectors.{Multipliers}
use Rattle.scenario_changes.specs.Problems.{Problem, program_at}
use Rattle.certs.specs.Trees.{stayer_box}
use Rattle.certs.specs.Verdicts.{judged}
use Rattle.certs.specs.declared.level.Level.TheVariants.{Inf}
use Rattle.certs.specs.declared.verdict.Verdict.{Verdict}
use Rattle.certs.specs.declared.cert.Cert.{Cert}
use Rattle.dive.specs.Dives.{LiesIn}
use Rattle.node_work.specs.Probes.{lows_of}

-- ---- refusals

abbrev pub with_vectors : List Step → List Multipliers → Cert
with_vectors steps vectors = record { steps = steps; vectors = vectors }

-- a verdict of the level Inf after these steps, whatever the vectors; none where scenario k remains
abbrev pub IsRefusal : Problem → Box → List Step → ℕ → Option Verdict → Type 0
IsRefusal p box steps k None = IsSome (stayer_box p box (with_vectors steps []) (program_at p k))
IsRefusal p box steps k (Some v) = (vectors : List Multipliers) → judged (program_at p k) box (with_vectors steps vectors) v ≡ Some Inf

-- one for each live scenario, in order
abbrev pub EachRefusal : Problem → Box → List Step → List ℕ → List (Option Verdict) → Type 0
EachRefusal p box steps [] [] = Unit {0}
EachRefusal p box steps [] (r ∷ refusals) = ⊥
EachRefusal p box steps (k ∷ live) [] = ⊥
EachRefusal p box steps (k ∷ live) (r ∷ refusals) = IsRefusal p box steps k r × EachRefusal p box steps live refusals

-- ---- boxes

-- the box of scenario k, None where it isn't one of these
abbrev pub part_of : List ℕ → List Box → ℕ → Option Box
part_of [] boxes k = None
part_of (j ∷ live) [] k = None
part_of (j ∷ live) (b ∷ boxes) k = if nat_eq j k then Some b else part_of live boxes k

-- the box isn't empty and lies in the bounds of scenario k; if it is single, its point is feasible
pub record IsPart (p : Problem) (k : ℕ) (part : Box) : Type 0 where
  pub columns : length part ≡ p.columns
  pub occupied : is_empty part ≡ false
  pub within : LiesIn part (program_at p k).bounds
  pub feasible : is_single part ≡ true → Feasible (program_at p k) (lows_of part)

abbrev pub HaveParts : Problem → List ℕ → List Box → Type 0
HaveParts p live boxes = (k : ℕ) (part : Box) → part_of live boxes k ≡ Some part → IsPart p k part
