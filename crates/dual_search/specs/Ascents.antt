-- What an ascent keeps, and what its steps do.
use Rattle.std.specs.Prelude.{◌≡◌, ℕ, ◌^◌, ◌<◌, ◌≤◌, ℤ, pos, negsuc, ◌+ℤ◌, ◌≤ℤ◌, ◌<ℤ◌, unsigned_abs, Bool, true, false, if◌then◌else◌, ◌⊎◌, List, length, slice_index_or, slice_set, All, Result, Ok, Err}
use Rattle.std.specs.declared.alloc.AllocError.{AllocError}
use Rattle.int_model.specs.Integers.{int_at}
use Rattle.int_model.specs.Boxes.{Box}
use Rattle.scenario_changes.specs.Problems.{Scenarios, problem, program_at}
use Rattle.dual_bounds.specs.Vectors.{Multipliers, KeepsLimits}
use Rattle.dual_search.specs.Totals.{total}
use Rattle.dual_search.specs.Gains.{entries_of, vector_of, AreReduced}
use Rattle.dual_search.specs.declared.ascent.Ascent.{Ascent}
use Rattle.dual_search.specs.declared.reduced_costs.ReducedCosts.{ReducedCosts}

-- the vector at which an ascent stands
abbrev pub vector_at : Ascent → Multipliers
vector_at a = vector_of a.scale a.multipliers.items

-- the same vector, but for the multiplier of one row
abbrev pub with_multiplier : Ascent → ℕ → ℤ → Multipliers
with_multiplier a row y = vector_of a.scale (slice_set a.multipliers.items row y)

-- the multipliers make a vector within the limits, with so many entries
pub record HasVector (a : Ascent) : Type 0 where
  pub scale : a.scale ≤ 2 ^ 20
  pub few_rows : length a.multipliers.items ≤ 1000
  pub limits : (i : ℕ) → unsigned_abs (int_at a.multipliers.items i) ≤ 2 ^ 40
  pub entries : a.entries ≡ length (entries_of 0 a.multipliers.items)
  pub few : a.entries ≤ 128

-- the reduced costs of each scenario at these multipliers
pub record AreAllReduced (p : Scenarios) (scale : ℕ) (ys : List ℤ) (scenarios : List ℕ) (reduced : List ReducedCosts) : Type 0 where
  pub count : length reduced ≡ length scenarios
  pub values : (k : ℕ) (d : ReducedCosts) → k < length scenarios → AreReduced (program_at (problem p) (slice_index_or scenarios k 0)) scale ys (slice_index_or reduced k d).costs.items

-- the scenarios and the multipliers belong to the problem, and the reduced costs to both
pub record IsCarried (p : Scenarios) (a : Ascent) : Type 0 where
  pub vector : HasVector a
  pub scenarios : All (λ s. s < length (problem p).scenarios) a.scenarios.items
  pub few_scenarios : length a.scenarios.items ≤ 64
  pub rows : length a.multipliers.items ≡ length p.model.rows
  pub reduced : AreAllReduced p a.scale a.multipliers.items a.scenarios.items a.reduced.items

-- a box of the problem's columns for each scenario
pub record AreBoxes (p : Scenarios) (a : Ascent) (boxes : List Box) : Type 0 where
  pub count : length boxes ≡ length a.scenarios.items
  pub columns : All (λ box. length box ≡ length p.model.columns) boxes

-- the total of a vector for the scenarios of an ascent
abbrev pub total_of : Scenarios → Ascent → List Box → Multipliers → ℤ
total_of p a boxes v = total (problem p) a.scenarios.items boxes v

-- the scenarios and the scale stay
pub record IsSameSearch (before after : Ascent) : Type 0 where
  pub scale : after.scale ≡ before.scale
  pub scenarios : after.scenarios.items ≡ before.scenarios.items

-- ---- steps

-- the least change of a multiplier to one side
abbrev pub unit : Bool → ℤ
unit upwards = if upwards then pos 1 else negsuc 0

-- the total doesn't grow where a row's multiplier grows by so much, as far as that may be
abbrev pub IsTopAt : Scenarios → Ascent → List Box → ℕ → ℤ → Type 0
IsTopAt p a boxes row y = KeepsLimits (with_multiplier a row (int_at a.multipliers.items row +ℤ y)) → total_of p a boxes (with_multiplier a row (int_at a.multipliers.items row +ℤ y)) ≤ℤ total_of p a boxes (vector_at a)

pub record IsTopOfRow (p : Scenarios) (a : Ascent) (boxes : List Box) (row : ℕ) : Type 0 where
  pub above : IsTopAt p a boxes row (unit true)
  pub below : IsTopAt p a boxes row (unit false)

abbrev pub IsTop : Scenarios → Ascent → List Box → Type 0
IsTop p a boxes = (row : ℕ) → row < length p.model.rows → IsTopOfRow p a boxes row

-- true: the total has grown; false: the vector stays, and it is a top
abbrev pub Ascends : Type 0 → Scenarios → List Box → Ascent → Result Bool AllocError → Ascent → Type 0
Ascends Top p boxes before (Ok true) after = total_of p before boxes (vector_at before) <ℤ total_of p before boxes (vector_at after)
Ascends Top p boxes before (Ok false) after = (after.multipliers.items ≡ before.multipliers.items) × Top
Ascends Top p boxes before (Err e) after = Unit {0}

-- the total has grown, or it stays and the start was a top
abbrev pub HasAscended : Scenarios → List Box → Ascent → Ascent → Type 0
HasAscended p boxes before after =
    (total_of p before boxes (vector_at before) <ℤ total_of p before boxes (vector_at after))
    ⊎ ((after.multipliers.items ≡ before.multipliers.items) × IsTop p before boxes)
