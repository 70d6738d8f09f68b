-- The problem of a base model and its scenarios: an integer program for each.
use Rattle.std.specs.Prelude.{◌≡◌, ℕ, ◌<◌, ◌≤◌, ◌*◌, ◌^◌, ℤ, pos, List, [], ◌∷◌, length, map, slice_index_or, All, Option}
use Rattle.std.specs.Int.{int_min, int_max}
use Rattle.int_model.specs.Boxes.{Box, box_of, hull_of}
use Rattle.int_model.specs.Programs.{Program, KeepsLimits, HasShape}
use Rattle.int_model.specs.Ends.{ends_of, EndsWithin}
use Rattle.int_model.specs.Models.{IntegerModel, minimized}
use Rattle.int_model.specs.Models as models
use Rattle.int_model.specs.Laws.{ValuesFit}
use Rattle.int_model.specs.declared.model.Column.{Column}
use Rattle.int_model.specs.declared.model.Row.{Row}
use Rattle.int_model.specs.declared.model.Rhs.{Rhs}
use Rattle.int_model.specs.declared.model.Rhs.TheVariants.{Value}
use Rattle.int_model.specs.declared.model.Ends.{Ends}
use Rattle.scenario_changes.specs.Changes.{Change, no_change, changed, ChangeSet, IsChangeSet, Fits}

-- one or more scenarios over the same columns and rows
pub record Problem : Type 0 where
  pub columns : ℕ
  pub rows : ℕ
  pub scenarios : List Program

-- ---- one scenario

abbrev pub ends_of_rows : List Row → List Rhs → List Ends
ends_of_rows [] bs = []
ends_of_rows (row ∷ rows) [] = []
ends_of_rows (row ∷ rows) (b ∷ bs) = ends_of row b ∷ ends_of_rows rows bs

-- costs, bounds and row ends: the changed values, or the base's where nothing is changed; for Max costs are negated
abbrev pub costs_of : IntegerModel → Change → List ℤ
costs_of m c = map (minimized m.direction) (changed (map (λ (j : Column). j.cost) m.columns) c.costs)

abbrev pub lows_of : IntegerModel → Change → List ℤ
lows_of m c = changed (map (λ (j : Column). j.low) m.columns) c.lows

abbrev pub highs_of : IntegerModel → Change → List ℤ
highs_of m c = changed (map (λ (j : Column). j.high) m.columns) c.highs

abbrev pub row_ends_of : IntegerModel → Change → List Ends
row_ends_of m c = ends_of_rows m.rows (changed (map (λ (i : Row). Value i.rhs) m.rows) c.rhs)

abbrev pub scenario_of : IntegerModel → Change → Program
scenario_of m c = record {
  costs = costs_of m c;
  constant = minimized m.direction m.constant;
  bounds = box_of (lows_of m c) (highs_of m c);
  rows = map (λ (i : Row). i.terms) m.rows;
  ends = row_ends_of m c;
}

-- what of a scenario's program is its own
pub record Numbers : Type 0 where
  pub costs : List ℤ
  pub lows : List ℤ
  pub highs : List ℤ
  pub ends : List Ends

abbrev pub numbers_of : IntegerModel → Change → Numbers
numbers_of m c = record { costs = costs_of m c; lows = lows_of m c; highs = highs_of m c; ends = row_ends_of m c }

-- ---- all scenarios

-- the scenarios that are solved: with none, the base alone
abbrev pub solved : IntegerModel → List Change → List Change
solved m [] = no_change (length m.columns) (length m.rows) ∷ []
solved m (c ∷ cs) = c ∷ cs

abbrev pub problem_of : IntegerModel → List Change → Problem
problem_of m cs = record { columns = length m.columns; rows = length m.rows; scenarios = map (scenario_of m) (solved m cs) }

-- program s; past the end one without columns and rows
abbrev pub program_at : Problem → ℕ → Program
program_at p s = slice_index_or p.scenarios s (record { costs = []; constant = pos 0; bounds = []; rows = []; ends = [] })

-- the box of the least low and the greatest high of each column
abbrev pub root_box : List Program → Box
root_box [] = []
root_box (s ∷ ss) = hull_of s.bounds (map (λ (t : Program). t.bounds) ss)

-- the lesser and the greater of two lists' numbers, place by place
abbrev pub lesser : List ℤ → List ℤ → List ℤ
lesser (a ∷ xs) (b ∷ ys) = int_min a b ∷ lesser xs ys
lesser (a ∷ xs) [] = []
lesser [] ys = []

abbrev pub greater : List ℤ → List ℤ → List ℤ
greater (a ∷ xs) (b ∷ ys) = int_max a b ∷ greater xs ys
greater (a ∷ xs) [] = []
greater [] ys = []

-- a base model, and what each scenario changes of it
pub record Scenarios : Type 0 where
  pub model : IntegerModel
  pub changes : List Change

abbrev pub problem : Scenarios → Problem
problem p = problem_of p.model p.changes

-- the name of scenario s, which the base alone doesn't have
abbrev pub name_at : Scenarios → ℕ → Option (List ℕ)
name_at p s = (slice_index_or (solved p.model p.changes) s (no_change 0 0)).name

-- a model and changes that fit it, beside the numbers of each scenario
pub record IsPosed (m : IntegerModel) (c : ChangeSet) (kept : List Numbers) : Type 0 where
  pub limits : models.KeepsLimits m
  pub changes : IsChangeSet c
  pub fits : Fits c m
  pub numbers : kept ≡ map (numbers_of m) (solved m c.scenarios)

-- ---- limits

-- a program within the limits, whose values are no less than the least bound
pub record IsWithin (columns rows : ℕ) (p : Program) : Type 0 where
  pub limits : KeepsLimits p
  pub shape : HasShape columns rows p
  pub ends : All (EndsWithin (2 * 10 ^ 18)) p.ends
  pub values : ValuesFit p

-- at most 1,000 columns and rows, and 1 to 64 programs within the limits
pub record AreWithin (p : Problem) : Type 0 where
  pub few_columns : p.columns ≤ 1000
  pub few_rows : p.rows ≤ 1000
  pub some_scenario : 0 < length p.scenarios
  pub few_scenarios : length p.scenarios ≤ 64
  pub programs : All (IsWithin p.columns p.rows) p.scenarios
