-- How a verdict is chosen.
use Rattle.std.specs.Prelude.{◌≡◌, ℕ, ◌<◌, ◌≤◌, ℤ, Bool, true, false, if◌then◌else◌, List, [], ◌∷◌, ◌++◌, length, slice_get, Option, Some, None, IsTrue, ◌⊎◌}
use Rattle.int_model.specs.Boxes.{Box, is_single}
use Rattle.int_model.specs.Programs.{Program, Feasible, value}
use Rattle.tighten.specs.Replay.{replay}
use Rattle.dual_bounds.specs.Vectors.{Multipliers, program_bound}
use Rattle.scenario_changes.specs.Problems.{Problem, program_at}
use Rattle.certs.specs.Levels.{level_le}
use Rattle.certs.specs.Trees.{some_row_misses, stayer_box}
use Rattle.certs.specs.Verdicts.{AllRowsBelow, judged, level_over, bound_level, farkas_level}
use Rattle.certs.specs.declared.level.Level.{Level}
use Rattle.certs.specs.declared.level.Level.TheVariants.{Value, Inf}
use Rattle.certs.specs.declared.verdict.Verdict.{Verdict}
use Rattle.certs.specs.declared.verdict.Verdict.TheVariants.{Point, Bound, Farkas}
use Rattle.certs.specs.declared.cert.Cert.{Cert}
use Rattle.node_work.specs.Probes.{Found, IsAscent, lows_of}
use Rattle.node_work.specs.declared.verdicts.Choice.{Choice}

-- the verdict is valid over a replay that isn't empty, and has this level
abbrev pub IsChosen : Program → List Multipliers → Box → Choice → Type 0
IsChosen p vectors part c = level_over p vectors c.verdict part ≡ Some c.level

-- the level of one choice is at most that of another
abbrev pub IsWeaker : Choice → Choice → Type 0
IsWeaker a b = IsTrue (level_le a.level b.level)

-- one of the two, at least as strong as both
abbrev pub IsStronger : Choice → Option Choice → Choice → Type 0
IsStronger first None c = c ≡ first
IsStronger first (Some second) c = ((c ≡ first) ⊎ (c ≡ second)) × IsWeaker first c × IsWeaker second c

-- the point of a single box
abbrev pub single_choice : Program → Box → Option Choice
single_choice p part = if is_single part then Some (record { verdict = Point; level = Value (value p (lows_of part)) }) else None

-- what vector k shows: its bound, or where its scale is 0 and its sum above 0 that there is no point
abbrev pub first_choice : ℕ → Option Level → Option Level → Option Choice
first_choice k (Some level) farkas = Some (record { verdict = Bound k; level = level })
first_choice k None (Some level) = Some (record { verdict = Farkas k; level = level })
first_choice k None None = None

abbrev pub choice_by : Program → Box → ℕ → Option Multipliers → Option Choice
choice_by p part k None = None
choice_by p part k (Some v) = first_choice k (bound_level p part v) (farkas_level p part v)

-- the first vector has a scale above 0
abbrev pub HasFirst : List Multipliers → Type 0
HasFirst vectors = (v : Multipliers) × (slice_get vectors 0 ≡ Some v) × (0 < v.scale)

-- the level is at least each bound
abbrev pub ReachesBounds : Program → List Multipliers → Box → Level → Type 0
ReachesBounds p vectors part level = (i : ℕ) (v : Multipliers) → slice_get vectors i ≡ Some v → 0 < v.scale → IsTrue (level_le (Value (program_bound p v part)) level)

-- valid, and at least as strong as each vector with a scale above 0, and as the point of a single box
pub record IsStrongest (p : Program) (vectors : List Multipliers) (part : Box) (c : Choice) : Type 0 where
  pub chosen : IsChosen p vectors part c
  pub bounds : ReachesBounds p vectors part c.level
  pub single : is_single part ≡ true → IsTrue (level_le (Value (value p (lows_of part))) c.level)

-- the box is the part, and its point is found, whose value is at most the level
pub record IsPoint (p : Program) (part now : Box) (is_point : Bool) (level : Level) : Type 0 where
  pub is_found : is_point ≡ true
  pub here : now ≡ part
  pub at_most : IsTrue (level_le (Value (value p (lows_of part))) level)

-- what is concluded of scenario k
pub record IsConcluded (p : Problem) (box : Box) (cert : Cert) (k : ℕ) (c : Choice) (is_point : Bool) (now : Box) : Type 0 where
  pub valid : judged (program_at p k) box cert c.verdict ≡ Some c.level
  pub missed : (part : Box) → replay (program_at p k) cert.steps box ≡ Some part → some_row_misses (program_at p k) p.rows part ≡ true → c.level ≡ Inf
  pub single : (part : Box) → replay (program_at p k) cert.steps box ≡ Some part → is_single part ≡ true → (c.level ≡ Inf) ⊎ IsPoint (program_at p k) part now is_point c.level
  pub best : (part : Box) → stayer_box p box cert (program_at p k) ≡ Some part → ReachesBounds (program_at p k) cert.vectors part c.level
  pub feasible : is_point ≡ true → Feasible (program_at p k) (lows_of now)

-- a point more, or the same points
abbrev pub IsKept : Found → ℕ → List ℤ → Bool → Found → Type 0
IsKept old k x true new = new ≡ old ++ (k, x) ∷ []
IsKept old k x false new = new ≡ old

-- the verdict is the strongest one over the box of scenario k, and the point of a single box is kept
pub record IsJudgedOver (p : Program) (vectors : List Multipliers) (k : ℕ) (part : Box) (old : Found) (v : Verdict) (new : Found) : Type 0 where
  pub level : Level
  pub strongest : IsStrongest p vectors part (record { verdict = v; level = level })
  pub kept : IsKept old k (lows_of part) (is_single part) new

-- the verdict is the refusal, or else that of the box
abbrev pub IsJudged : Program → List Multipliers → ℕ → Option Verdict → Option Box → Found → Verdict → Found → Type 0
IsJudged p vectors k (Some refusal) part old v new = (v ≡ refusal) × (new ≡ old)
IsJudged p vectors k None None old v new = ⊥
IsJudged p vectors k None (Some part) old v new = IsJudgedOver p vectors k part old v new

-- at most two vectors with rows of the model, of which the first one is as the promise on multipliers asks
pub record AreBounding (p : Problem) (rows : ℕ) (live : List ℕ) (boxes : List Box) (vectors : List Multipliers) : Type 0 where
  pub vector : Multipliers
  pub first : slice_get vectors 0 ≡ Some vector
  pub ascent : IsAscent p live boxes vector
  pub rows_below : AllRowsBelow rows vectors
  pub few : length vectors ≤ 2
