-- What is proved of the definitions.
use Rattle.std.specs.Prelude.{◌≡◌, ◌↔◌, ◌⊎◌, ℕ, ◌+◌, ◌^◌, ◌<◌, ◌≤◌, ℤ, pos, neg_ℤ, ◌+ℤ◌, ◌-ℤ◌, ◌*ℤ◌, ◌≤ℤ◌, ◌<ℤ◌, unsigned_abs, true, false, IsTrue, List, [], length, map, slice_index_or, Some, None}
use Rattle.std.specs.Int.{int_max, int_min}
use Rattle.int_model.specs.Integers.{int_at}
use Rattle.int_model.specs.Boxes.{Box, Interval, InBox, in_box, is_empty, is_single, interval_at, below_cut, above_cut, volume}
use Rattle.int_model.specs.Programs.{Program, Terms, IsBetween, Feasible, value, row_sum, HasShape}
use Rattle.int_model.specs.Programs as programs
use Rattle.int_model.specs.RowSums.{coefficient, greatest_sum, least_sum, row_at, row_misses, without}
use Rattle.int_model.specs.Ends.{ends_from, ends_of}
use Rattle.int_model.specs.Models.{IntegerModel, program_of}
use Rattle.int_model.specs.Models as models
use Rattle.int_model.specs.ByColumn.{column_terms}
use Rattle.int_model.specs.Build.{AreParts, refusal}
use Rattle.int_model.specs.declared.build.ColumnPart.{ColumnPart}
use Rattle.int_model.specs.declared.model.Row.{Row}
use Rattle.int_model.specs.declared.model.RowSense.TheVariants.{L, G, E}
use Rattle.int_model.specs.declared.model.Rhs.TheVariants.{Inf, MinusInf}

-- ---- boxes

-- the two parts of a cut hold each point of the box once, by whether its number at j is at most v
pub record Splits (box : Box) (j : ℕ) (v : ℤ) : Type 0 where
  pub low_part : (x : List ℤ) → InBox (below_cut box j v) x ↔ (InBox box x × (int_at x j ≤ℤ v))
  pub high_part : (x : List ℤ) → InBox (above_cut box j v) x ↔ (InBox box x × (v <ℤ int_at x j))
  pub covers : (x : List ℤ) → InBox box x → InBox (below_cut box j v) x ⊎ InBox (above_cut box j v) x
  pub disjoint : (x : List ℤ) → InBox (below_cut box j v) x → InBox (above_cut box j v) x → ⊥

abbrev pub CutSplits : Type 0
CutSplits = (box : Box) (j : ℕ) (v : ℤ) → j < length box → Splits box j v

-- a value at which a column's interval may be cut
pub record CanCut (box : Box) (j : ℕ) (v : ℤ) : Type 0 where
  pub column : j < length box
  pub occupied : is_empty box ≡ false
  pub low : (interval_at box j).low ≤ℤ v
  pub high : v <ℤ (interval_at box j).high

-- both parts of a cut have points, and fewer than the box; together they have as many
pub record Shrinks (box : Box) (j : ℕ) (v : ℤ) : Type 0 where
  pub volumes : volume (below_cut box j v) + volume (above_cut box j v) ≡ volume box
  pub below_smaller : volume (below_cut box j v) < volume box
  pub above_smaller : volume (above_cut box j v) < volume box
  pub below_occupied : is_empty (below_cut box j v) ≡ false
  pub above_occupied : is_empty (above_cut box j v) ≡ false

abbrev pub CutShrinks : Type 0
CutShrinks = (box : Box) (j : ℕ) (v : ℤ) → CanCut box j v → Shrinks box j v

-- the tests on a box say what its points are
pub record TellsPoints (box : Box) : Type 0 where
  pub inside : (x : List ℤ) → IsTrue (in_box box x) ↔ InBox box x
  pub none : is_empty box ≡ true → (x : List ℤ) → InBox box x → ⊥
  pub some : is_empty box ≡ false → InBox box (map (λ (i : Interval). i.low) box)
  pub one : is_single box ≡ true → (x : List ℤ) → InBox box x ↔ (x ≡ map (λ (i : Interval). i.low) box)

abbrev pub BoxTests : Type 0
BoxTests = (box : Box) → TellsPoints box

-- ---- rows

-- which sums a row allows, by its sense, its right-hand side b and its range r
pub record EndsTable (b r z : ℤ) : Type 0 where
  pub less : IsBetween (ends_from L b None) z ↔ (z ≤ℤ b)
  pub greater : IsBetween (ends_from G b None) z ↔ (b ≤ℤ z)
  pub equal : IsBetween (ends_from E b None) z ↔ (z ≡ b)
  pub less_range : IsBetween (ends_from L b (Some r)) z ↔ (((b -ℤ pos (unsigned_abs r)) ≤ℤ z) × (z ≤ℤ b))
  pub greater_range : IsBetween (ends_from G b (Some r)) z ↔ ((b ≤ℤ z) × (z ≤ℤ (b +ℤ pos (unsigned_abs r))))
  pub equal_range : IsBetween (ends_from E b (Some r)) z ↔ ((int_min b (b +ℤ r) ≤ℤ z) × (z ≤ℤ int_max b (b +ℤ r)))

abbrev pub EndsByTable : Type 0
EndsByTable = (b r z : ℤ) → EndsTable b r z

-- a row that is removed allows every sum
abbrev pub RemovedAllows : Type 0
RemovedAllows = (row : Row) (z : ℤ) → IsBetween (ends_of row Inf) z × IsBetween (ends_of row MinusInf) z

-- at each point of a box the row's sum lies between its least and its greatest
pub record Bounds (terms : Terms) (box : Box) (x : List ℤ) : Type 0 where
  pub least : least_sum terms box ≤ℤ row_sum terms x
  pub greatest : row_sum terms x ≤ℤ greatest_sum terms box

abbrev pub SumsBound : Type 0
SumsBound = (terms : Terms) (box : Box) (x : List ℤ) → InBox box x → Bounds terms box x

-- the row's sum is the column's part and the sum of the other terms
abbrev pub SumsSplit : Type 0
SumsSplit = (j : ℕ) (terms : Terms) (x : List ℤ) → row_sum terms x ≡ coefficient j terms *ℤ int_at x j +ℤ row_sum (without j terms) x

-- a box that a row misses has no feasible point
abbrev pub MissedHasNone : Type 0
MissedHasNone = (p : Program) (i : ℕ) (box : Box) → row_misses p i box ≡ true → (x : List ℤ) → Feasible p x → InBox box x → ⊥

-- the coefficient of a row's column is that of the column's row
abbrev pub ColumnsTransposed : Type 0
ColumnsTransposed = (rows : List Terms) (i j : ℕ) → coefficient i (column_terms j 0 rows) ≡ coefficient j (slice_index_or rows i [])

-- ---- parts

-- nothing is refused exactly where the parts make a model
abbrev pub RefusesTheRest : Type 0
RefusesTheRest = (columns : List ColumnPart) (rows : List Row) (constant : ℤ) → (refusal columns rows constant ≡ None) ↔ AreParts columns rows constant

-- ---- limits

-- at each point within the bounds the value and each row's sum stay small
pub record Fits (p : Program) (x : List ℤ) : Type 0 where
  pub value : unsigned_abs (value p x) ≤ 2 ^ 60
  pub sums : (i : ℕ) → unsigned_abs (row_sum (row_at p i) x) ≤ 10 ^ 18

abbrev pub LimitsFit : Type 0
LimitsFit = (p : Program) → programs.KeepsLimits p → (x : List ℤ) → InBox p.bounds x → Fits p x

-- no value of a feasible point lies below the least bound
abbrev pub ValuesFit : Program → Type 0
ValuesFit p = (x : List ℤ) → Feasible p x → neg_ℤ (pos (2 ^ 60)) ≤ℤ value p x

-- the program of a model within the limits is within them, with the model's columns and rows
pub record ProgramFits (m : IntegerModel) : Type 0 where
  pub limits : programs.KeepsLimits (program_of m)
  pub shape : HasShape (length m.columns) (length m.rows) (program_of m)

abbrev pub ModelsFit : Type 0
ModelsFit = (m : IntegerModel) → models.KeepsLimits m → ProgramFits m
