-- Which scenarios stay, and what is handed on to the children.
use Rattle.std.specs.Prelude.{◌≡◌, ◌↔◌, ℕ, ◌<◌, ℤ, Bool, true, false, not, nat_eq, List, slice_get, slice_index_or, Option, Some, None, IsTrue, Contains, length}
use Rattle.std.specs.List.{list_any}
use Rattle.int_model.specs.Boxes.{Box, is_single}
use Rattle.int_model.specs.Programs.{value}
use Rattle.scenario_changes.specs.Problems.{Problem, program_at}
use Rattle.certs.specs.Levels.{level_le, cap_level}
use Rattle.certs.specs.Trees.{raised, stayer_box}
use Rattle.certs.specs.declared.level.Level.{Level}
use Rattle.certs.specs.declared.level.Level.TheVariants.{Value}
use Rattle.certs.specs.declared.cert.Cert.{Cert}
use Rattle.certs.specs.declared.verdict.Verdict.{Verdict}
use Rattle.bb_core.specs.Settlements.{Work, place_of}
use Rattle.node_work.specs.Probes.{Found}

-- there is a level, and it is below the cut
abbrev pub is_below : Option ℤ → Option Level → Bool
is_below cut None = false
is_below cut (Some level) = not (level_le (cap_level cut) level)

-- the raised level of scenario k is below its cut
abbrev pub undercuts : List (Option ℤ) → List (Option Level) → ℕ → Bool
undercuts cuts levels k = is_below (slice_index_or cuts k None) (slice_index_or levels k None)

-- exactly the scenarios stay whose raised level is below their cut
abbrev pub AreStayers : Problem → Work → Cert → List Verdict → List (Option ℤ) → List ℕ → Type 0
AreStayers p w cert verdicts cuts stay =
    (levels : List (Option Level)) → raised w.bounds cert p.scenarios (place_of w).levels verdicts ≡ Some levels → (k : ℕ) → Contains stay k ↔ IsTrue (undercuts cuts levels k)

-- each cut is at most the values of the points found for its scenario
abbrev pub CutsAreReached : Problem → Found → List (Option ℤ) → Type 0
CutsAreReached p found cuts =
    (i k : ℕ) (x : List ℤ) → slice_get found i ≡ Some (k, x) → IsTrue (level_le (cap_level (slice_index_or cuts k None)) (Value (value (program_at p k) x)))

-- the replay of scenario k isn't empty, no row misses it, and it isn't single
pub record IsOpen (p : Problem) (box : Box) (cert : Cert) (k : ℕ) : Type 0 where
  pub is_scenario : k < length p.scenarios
  pub part : Box
  pub is_part : stayer_box p box cert (program_at p k) ≡ Some part
  pub several : is_single part ≡ false

abbrev pub AreOpen : Problem → Box → Cert → List ℕ → Type 0
AreOpen p box cert stay = (k : ℕ) → list_any (nat_eq k) stay ≡ true → IsOpen p box cert k
