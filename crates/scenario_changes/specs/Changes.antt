-- What each scenario of a model changes.
use Rattle.std.specs.Prelude.{◌≡◌, ℕ, ◌-◌, ◌<◌, ◌≤◌, ◌^◌, ℤ, Bool, true, false, ◌&&◌, ◌||◌, not, nat_lt, nat_le, nat_eq, List, [], ◌∷◌, ◌++◌, length, map, take, replicate, slice_set, slice_index_or, All, Option, Some, None, is_some, unwrap_or, IfSome, max}
use Rattle.std.specs.List.{list_any}
use Rattle.int_model.specs.Limits.{IsBound, IsEntry}
use Rattle.int_model.specs.Ends.{removes, is_value}
use Rattle.int_model.specs.Build.{exceeds}
use Rattle.int_model.specs.Models.{IntegerModel}
use Rattle.int_model.specs.declared.model.Row.{Row}
use Rattle.int_model.specs.declared.model.Rhs.{Rhs}
use Rattle.int_model.specs.declared.model.Rhs.TheVariants.{Value, Inf, MinusInf}
use Rattle.scenario_changes.specs.declared.change.RowShape.{RowShape}

-- what a scenario changes: a place for each column and each row, None where the base's value stays
pub record Change : Type 0 where
  pub name : Option (List ℕ)
  pub costs : List (Option ℤ)
  pub lows : List (Option ℤ)
  pub highs : List (Option ℤ)
  pub rhs : List (Option Rhs)

abbrev pub no_change : ℕ → ℕ → Change
no_change columns rows = record { name = None; costs = replicate columns None; lows = replicate columns None; highs = replicate columns None; rhs = replicate rows None }

-- the changed value where there is one, else the base's
abbrev pub changed : {A : Type 0} → List A → List (Option A) → List A
changed [] cs = []
changed (b ∷ bs) [] = b ∷ bs
changed (b ∷ bs) (c ∷ cs) = unwrap_or c b ∷ changed bs cs

-- the changes of all scenarios, for models with so many columns and with rows of these shapes
pub record ChangeSet : Type 0 where
  pub columns : ℕ
  pub rows : List RowShape
  pub scenarios : List Change
  pub selected : ℕ

-- ---- the models that changes are for

abbrev pub shape_of : Row → RowShape
shape_of row = record { sense = row.sense; ranged = is_some row.range }

-- as many columns, and the same senses and presence of ranges row by row
pub record Fits (c : ChangeSet) (m : IntegerModel) : Type 0 where
  pub columns : c.columns ≡ length m.columns
  pub rows : c.rows ≡ map shape_of m.rows

-- ---- how a setting changes the changes

-- the selected scenario's changes
abbrev pub selected_change : ChangeSet → Change
selected_change c = slice_index_or c.scenarios c.selected (no_change c.columns (length c.rows))

abbrev pub with_selected : ChangeSet → Change → ChangeSet
with_selected c s = record c { scenarios = slice_set c.scenarios c.selected s }

abbrev pub with_cost : ChangeSet → ℕ → Option ℤ → ChangeSet
with_cost c j v = with_selected c (record (selected_change c) { costs = slice_set (selected_change c).costs j v })

abbrev pub with_low : ChangeSet → ℕ → Option ℤ → ChangeSet
with_low c j v = with_selected c (record (selected_change c) { lows = slice_set (selected_change c).lows j v })

abbrev pub with_high : ChangeSet → ℕ → Option ℤ → ChangeSet
with_high c j v = with_selected c (record (selected_change c) { highs = slice_set (selected_change c).highs j v })

abbrev pub with_rhs : ChangeSet → ℕ → Option Rhs → ChangeSet
with_rhs c i v = with_selected c (record (selected_change c) { rhs = slice_set (selected_change c).rhs i v })

abbrev pub with_name : ChangeSet → Option (List ℕ) → ChangeSet
with_name c name = with_selected c (record (selected_change c) { name = name })

-- n scenarios: the last ones are dropped, or ones without changes are added
abbrev pub resized : List Change → ℕ → Change → List Change
resized cs n c = take n cs ++ replicate (n - length cs) c

abbrev pub with_number : ChangeSet → ℕ → ChangeSet
with_number c n = record c { scenarios = resized c.scenarios n (no_change c.columns (length c.rows)); selected = 0 }

-- ---- what may be set

-- a byte that no name has: space, tab, carriage return or line feed
abbrev pub is_break : ℕ → Bool
is_break b = nat_eq b 32 || nat_eq b 9 || nat_eq b 13 || nat_eq b 10

abbrev pub is_name : List ℕ → Bool
is_name name = nat_lt 0 (length name) && nat_le (length name) 255 && not (list_any is_break name)

abbrev pub rhs_exceeds : Option Rhs → Bool
rhs_exceeds None = false
rhs_exceeds (Some (Value b)) = exceeds (10 ^ 18) b
rhs_exceeds (Some Inf) = false
rhs_exceeds (Some MinusInf) = false

-- a right-hand side that a row of this shape can have: a number, or the removal of a row without a range
abbrev pub may_have : RowShape → Option Rhs → Bool
may_have row None = true
may_have row (Some rhs) = is_value rhs || (not row.ranged && removes row.sense rhs)

-- ---- changes that may stand

-- right-hand sides for the rows, each of which may be set
abbrev pub AreSides : List RowShape → List (Option Rhs) → Type 0
AreSides [] [] = Unit {0}
AreSides [] (v ∷ vs) = Unit {0}
AreSides (row ∷ rows) [] = Unit {0}
AreSides (row ∷ rows) (v ∷ vs) = (rhs_exceeds v ≡ false) × (may_have row v ≡ true) × AreSides rows vs

-- changes of columns and rows, each of which may be set
pub record IsChange (columns : ℕ) (rows : List RowShape) (c : Change) : Type 0 where
  pub name : IfSome c.name (λ n. is_name n ≡ true)
  pub cost_count : length c.costs ≡ columns
  pub low_count : length c.lows ≡ columns
  pub high_count : length c.highs ≡ columns
  pub rhs_count : length c.rhs ≡ length rows
  pub costs : All (λ (v : Option ℤ). IfSome v IsEntry) c.costs
  pub lows : All (λ (v : Option ℤ). IfSome v IsBound) c.lows
  pub highs : All (λ (v : Option ℤ). IfSome v IsBound) c.highs
  pub rhs : AreSides rows c.rhs

-- at most 64 scenarios over at most 1,000 columns and rows, and a selected one where there are any
pub record IsChangeSet (c : ChangeSet) : Type 0 where
  pub few_columns : c.columns ≤ 1000
  pub few_rows : length c.rows ≤ 1000
  pub few_scenarios : length c.scenarios ≤ 64
  pub selected : c.selected < max 1 (length c.scenarios)
  pub changes : All (IsChange c.columns c.rows) c.scenarios
