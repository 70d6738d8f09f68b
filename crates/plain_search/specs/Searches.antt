-- What the plain search looks for, and what it keeps.
use Rattle.std.specs.Prelude.{◌≡◌, ◌⊎◌, ℕ, ◌+◌, ◌-◌, ◌*◌, ◌<◌, ◌≤◌, ℤ, ◌≤ℤ◌, List, [], ◌∷◌, ◌++◌, length, All, slice_index_or, Option, Some, None, sum_by, false}
use Rattle.int_model.specs.Boxes.{Box, InBox, is_empty, volume, interval_at, below_cut, above_cut}
use Rattle.int_model.specs.Programs.{Program, Feasible, value}
use Rattle.int_model.specs.RowSums.{row_misses}
use Rattle.scen_report.specs.Reports.{IsValue}
use Rattle.scenario_changes.specs.Answers.{HasValue, RightAnswer}
use Rattle.scenario_changes.specs.Problems.{Problem, Scenarios, problem, program_at}
use Rattle.scenario_changes.specs.declared.answer.Answer.{Answer}
use Rattle.scenario_changes.specs.declared.answer.Answer.TheVariants.{Infeasible}
use Rattle.plain_search.specs.declared.search.Best.{Best}

-- a scenario's program over a box in place of its bounds
abbrev pub program_over : Scenarios → ℕ → Box → Program
program_over p s box = record (program_at (problem p) s) { bounds = box }

-- answer s; past the end none of it is asked
abbrev pub answer_at : List Answer → ℕ → Answer
answer_at answers s = slice_index_or answers s Infeasible

-- the right answer to each scenario, in order
pub record AreRight (p : Problem) (answers : List Answer) : Type 0 where
  pub count : length answers ≡ length p.scenarios
  pub right : (s : ℕ) → s < length p.scenarios → RightAnswer (program_at p s) (answer_at answers s)

-- no point of the program's box is feasible
abbrev pub HasNone : Program → Type 0
HasNone p = (x : List ℤ) → Feasible p x → ⊥

-- no row shows that
abbrev pub MissesNone : Program → Type 0
MissesNone p = (i : ℕ) → i < length p.rows → row_misses p i p.bounds ≡ false

-- ---- what is kept

-- a point is kept whose value is at most v
abbrev pub IsAtMost : Option Best → ℤ → Type 0
IsAtMost None v = ⊥
IsAtMost (Some b) v = b.value ≤ℤ v

-- the kept point has its value, which is within the limit
abbrev pub IsKept : Program → Option Best → Type 0
IsKept p None = Unit {0}
IsKept p (Some b) = HasValue p b.point b.value × IsValue b.value

-- x is kept with the value v
abbrev pub KeepsPoint : List ℤ → ℤ → Option Best → Type 0
KeepsPoint x v None = ⊥
KeepsPoint x v (Some b) = (b.point ≡ x) × (v ≡ b.value) × IsValue b.value

-- the better of x, of the value v, and the kept point is kept
pub record Keeps (x : List ℤ) (v : ℤ) (old new : Option Best) : Type 0 where
  pub at_most : IsAtMost new v
  pub better : (w : ℤ) → IsAtMost old w → IsAtMost new w
  pub kept : (new ≡ old) ⊎ KeepsPoint x v new

-- ---- open boxes

-- some box of the list has the point
abbrev pub InSome : List Box → List ℤ → Type 0
InSome [] x = ⊥
InSome (b ∷ bs) x = InBox b x ⊎ InSome bs x

-- a part of a box that isn't empty
pub record IsPart (b c : Box) : Type 0 where
  pub columns : length c ≡ length b
  pub occupied : is_empty c ≡ false
  pub within : (x : List ℤ) → InBox c x → InBox b x

-- twice the number of a box's points, less one
abbrev pub weight : Box → ℕ
weight b = 2 * volume b - 1

-- twice the number of all points of the boxes, less the number of boxes
abbrev pub total_weight : List Box → ℕ
total_weight bs = sum_by weight bs

-- the two parts of a cut stand at the end of the list
pub record HasHalves (b : Box) (old new : List Box) : Type 0 where
  pub column : ℕ
  pub value : ℤ
  pub in_range : column < length b
  pub list : new ≡ (old ++ above_cut b column value ∷ []) ++ below_cut b column value ∷ []
  pub volumes : volume (below_cut b column value) + volume (above_cut b column value) ≡ volume b
  pub below_occupied : is_empty (below_cut b column value) ≡ false
  pub above_occupied : is_empty (above_cut b column value) ≡ false

-- the box of the program was closed or cut: what was added to the list, and what became of the best point
pub record Visits (p : Program) (old new : List Box) (before after : Option Best) : Type 0 where
  pub added : List Box
  pub list : new ≡ old ++ added
  pub parts : All (IsPart p.bounds) added
  pub here : (x : List ℤ) → Feasible p x → InSome added x ⊎ IsAtMost after (value p x)
  pub better : (v : ℤ) → IsAtMost before v → IsAtMost after v
  pub kept : (after ≡ before) ⊎ IsKept p after
  pub lighter : total_weight added < weight p.bounds

-- each feasible point lies in an open box, or is no better than the kept point
pub record Covers (p : Program) (boxes : List Box) (best : Option Best) : Type 0 where
  pub parts : All (IsPart p.bounds) boxes
  pub kept : IsKept p best
  pub covered : (x : List ℤ) → Feasible p x → InSome boxes x ⊎ IsAtMost best (value p x)
