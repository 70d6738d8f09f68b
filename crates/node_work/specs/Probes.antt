-- What a probe of a node tells.
use Rattle.std.specs.Prelude.{◌≡◌, ℕ, ◌<◌, ℤ, ◌≤ℤ◌, true, List, [], ◌∷◌, map, slice_get, Option, Some, None, IsTrue, ◌⊎◌}
use Rattle.int_model.specs.Boxes.{Box, Interval, is_single}
use Rattle.int_model.specs.Programs.{Feasible, value}
use Rattle.tighten.specs.Replay.{replay}
use Rattle.dual_bounds.specs.Vectors.{Multipliers, program_bound}
use Rattle.dual_search.specs.Totals.{total, IsAscended}
use Rattle.scenario_changes.specs.Problems.{Problem, program_at}
use Rattle.certs.specs.Levels.{level_le}
use Rattle.certs.specs.Trees.{cert_fits, some_row_misses, stayer_box}
use Rattle.certs.specs.Verdicts.{judged}
use Rattle.certs.specs.declared.level.Level.{Level}
use Rattle.certs.specs.declared.level.Level.TheVariants.{Value, Inf}
use Rattle.certs.specs.declared.verdict.Verdict.{Verdict}
use Rattle.certs.specs.declared.cert.Cert.{Cert}
use Rattle.bb_core.specs.Settlements.{Work}

-- scenarios with points of theirs
abbrev pub Found : Type 0
Found = List (ℕ × List ℤ)

-- one verdict for each live scenario, in order, and P holds of the two
abbrev pub EachLive : (ℕ → Verdict → Type 0) → List ℕ → List Verdict → Type 0
EachLive P [] [] = Unit {0}
EachLive P [] (v ∷ verdicts) = ⊥
EachLive P (k ∷ live) [] = ⊥
EachLive P (k ∷ live) (v ∷ verdicts) = P k v × EachLive P live verdicts

-- the point of the low ends
abbrev pub lows_of : Box → List ℤ
lows_of box = map (λ (i : Interval). i.low) box

-- the points are feasible for their scenarios
abbrev pub AreFound : Problem → Found → Type 0
AreFound p found = (i k : ℕ) (x : List ℤ) → slice_get found i ≡ Some (k, x) → Feasible (program_at p k) x

-- the point is found for the scenario, and its value is at most the level
pub record IsSolved (p : Problem) (found : Found) (k : ℕ) (x : List ℤ) (level : Level) : Type 0 where
  pub place : ℕ
  pub there : slice_get found place ≡ Some (k, x)
  pub at_most : IsTrue (level_le (Value (value (program_at p k) x)) level)

-- the verdict is valid. Its level is Inf where a row misses the replay; where the replay is single, that is so too, or
-- its point is found
pub record IsGoodVerdict (p : Problem) (box : Box) (cert : Cert) (found : Found) (k : ℕ) (v : Verdict) : Type 0 where
  pub level : Level
  pub valid : judged (program_at p k) box cert v ≡ Some level
  pub missed : (part : Box) → replay (program_at p k) cert.steps box ≡ Some part → some_row_misses (program_at p k) p.rows part ≡ true → level ≡ Inf
  pub single : (part : Box) → replay (program_at p k) cert.steps box ≡ Some part → is_single part ≡ true → (level ≡ Inf) ⊎ IsSolved p found k (lows_of part) level

-- a good probe of a work: what a node may record, and points
pub record IsGoodProbe (p : Problem) (w : Work) (cert : Cert) (verdicts : List Verdict) (found : Found) : Type 0 where
  pub fits : cert_fits p cert ≡ true
  pub are_good : EachLive (IsGoodVerdict p w.bounds cert found) w.live verdicts
  pub are_found : AreFound p found

-- ---- multipliers

-- the scenarios whose replay isn't empty and that no row misses, each with its replay
abbrev pub with_box : ℕ → Option Box → List (ℕ × Box) → List (ℕ × Box)
with_box k None rest = rest
with_box k (Some part) rest = (k, part) ∷ rest

abbrev pub remaining : Problem → Box → Cert → List ℕ → List (ℕ × Box)
remaining p box cert [] = []
remaining p box cert (k ∷ live) = with_box k (stayer_box p box cert (program_at p k)) (remaining p box cert live)

abbrev pub scenarios_of : List (ℕ × Box) → List ℕ
scenarios_of parts = map (λ (t : ℕ × Box). t.0) parts

abbrev pub boxes_of : List (ℕ × Box) → List Box
boxes_of parts = map (λ (t : ℕ × Box). t.1) parts

abbrev pub no_entries : ℕ → Multipliers
no_entries scale = record { scale = scale; entries = [] }

-- a vector whose total is at least that of the one without entries, and greater where a neighbour of that has a greater one
pub record IsAscent (p : Problem) (live : List ℕ) (boxes : List Box) (v : Multipliers) : Type 0 where
  pub scale : 0 < v.scale
  pub least : total p live boxes (no_entries v.scale) ≤ℤ total p live boxes v
  pub greater : IsAscended p live boxes (no_entries v.scale) v

-- the first vector is such one for the scenarios that remain
pub record HasAscent (p : Problem) (box : Box) (cert : Cert) (live : List ℕ) : Type 0 where
  pub vector : Multipliers
  pub first : slice_get cert.vectors 0 ≡ Some vector
  pub ascent : IsAscent p (scenarios_of (remaining p box cert live)) (boxes_of (remaining p box cert live)) vector

-- where the replay isn't empty and no row misses it, the level is at least the bound of each vector with a scale above 0
abbrev pub IsBestVerdict : Problem → Box → Cert → ℕ → Verdict → Type 0
IsBestVerdict p box cert k v =
    (level : Level) (part : Box) (i : ℕ) (vector : Multipliers) → judged (program_at p k) box cert v ≡ Some level → stayer_box p box cert (program_at p k) ≡ Some part
    → slice_get cert.vectors i ≡ Some vector → 0 < vector.scale → IsTrue (level_le (Value (program_bound (program_at p k) vector part)) level)
