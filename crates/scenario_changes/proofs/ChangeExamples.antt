-- Worked examples, by computing.
use Rattle.std.specs.Prelude.{◌≡◌, pos, negsuc, true, false, [], ◌∷◌, length, Some, None, refl}
use Rattle.std.proofs.Common.{rules}
use Rattle.int_model.specs.Boxes.{box_of}
use Rattle.int_model.specs.Programs.{Feasible, value}
use Rattle.int_model.specs.Models.{IntegerModel}
use Rattle.int_model.specs.declared.model.RowSense.TheVariants.{L, E}
use Rattle.int_model.specs.declared.model.Rhs.TheVariants.{Value, Inf, MinusInf}
use Rattle.int_model.specs.declared.model.Direction.TheVariants.{Min, Max}
use Rattle.scenario_changes.specs.Changes.{Change, ChangeSet, no_change, changed, resized, with_cost, with_number, is_name}
use Rattle.scenario_changes.specs.Refusals.{column_refusal, rhs_refusal, select_refusal}
use Rattle.scenario_changes.specs.Problems.{scenario_of, problem_of, root_box, name_at}
use Rattle.scenario_changes.specs.declared.error.ChangeError.TheVariants.{NoScenario, UnknownColumn, UnknownRow, Magnitude, BadRemoval}

-- min -3x - 2y + 10, 2x + y ≤ 4, x and y in 0..3
abbrev pub base : IntegerModel
base = record {
  columns = record { name = 120 ∷ []; cost = negsuc 2; low = pos 0; high = pos 3 } ∷ record { name = 121 ∷ []; cost = negsuc 1; low = pos 0; high = pos 3 } ∷ [];
  rows = record { name = 99 ∷ []; sense = L; rhs = pos 4; range = None; terms = (0, pos 2) ∷ (1, pos 1) ∷ [] } ∷ [];
  constant = pos 10;
  direction = Min;
  implied = 0;
}

abbrev pub same : Change
same = no_change 2 1

-- an undefined place keeps the base's value, and a defined 0 is one
undefined-keeps : changed (pos 5 ∷ pos 6 ∷ pos 7 ∷ []) (None ∷ Some (pos 0) ∷ None ∷ []) ≡ pos 5 ∷ pos 0 ∷ pos 7 ∷ []
undefined-keeps = refl

unchanged-is-base : (scenario_of base same).costs ≡ negsuc 2 ∷ negsuc 1 ∷ []
unchanged-is-base = refl

-- for Max costs are negated, changed ones too, and so is the constant
negated-costs : (scenario_of (record base { direction = Max }) (record same { costs = None ∷ Some (pos 8) ∷ [] })).costs ≡ pos 3 ∷ negsuc 7 ∷ []
negated-costs = refl

negated-constant : (scenario_of (record base { direction = Max }) same).constant ≡ negsuc 9
negated-constant = refl

-- a changed side moves the row's end, and a removed row has neither end
moved-end : (scenario_of base (record same { rhs = Some (Value (pos 2)) ∷ [] })).ends ≡ record { lower = None; upper = Some (pos 2) } ∷ []
moved-end = refl

removed-row : (scenario_of base (record same { rhs = Some Inf ∷ [] })).ends ≡ record { lower = None; upper = None } ∷ []
removed-row = refl

-- the range goes with a changed side: an equation with the range -2 at 7 allows 5 to 7
abbrev pub ranged : IntegerModel
ranged = record base { rows = record { name = 114 ∷ []; sense = E; rhs = pos 5; range = Some (negsuc 1); terms = (0, pos 1) ∷ [] } ∷ [] }

ranged-end : (scenario_of ranged (record same { rhs = Some (Value (pos 7)) ∷ [] })).ends ≡ record { lower = Some (pos 5); upper = Some (pos 7) } ∷ []
ranged-end = refl

-- (1, 2) is feasible at the value -7 + 10
one_two-feasible : Feasible (scenario_of base same) (pos 1 ∷ pos 2 ∷ [])
one_two-feasible = search rules

one_two-value : value (scenario_of base same) (pos 1 ∷ pos 2 ∷ []) ≡ pos 3
one_two-value = refl

-- with no scenarios the base alone is solved, without a name
base-alone : length (problem_of base []).scenarios ≡ 1
base-alone = refl

no-name : name_at (record { model = base; changes = [] }) 0 ≡ None
no-name = refl

-- beside others the base isn't solved
others-alone : length (problem_of base (same ∷ same ∷ [])).scenarios ≡ 2
others-alone = refl

-- the root box covers the bounds of all scenarios, crossed ones too
root-covers : root_box (problem_of base (record same { lows = Some (pos 2) ∷ None ∷ []; highs = Some (pos 1) ∷ None ∷ [] } ∷ record same { lows = Some (pos 1) ∷ Some (negsuc 0) ∷ []; highs = Some (pos 1) ∷ None ∷ [] } ∷ [])).scenarios ≡ box_of (pos 1 ∷ negsuc 0 ∷ []) (pos 1 ∷ pos 3 ∷ [])
root-covers = refl

-- ---- settings

abbrev pub two : ChangeSet
two = record { columns = 2; rows = record { sense = L; ranged = false } ∷ record { sense = L; ranged = true } ∷ record { sense = E; ranged = false } ∷ []; scenarios = no_change 2 3 ∷ no_change 2 3 ∷ []; selected = 1 }

-- a setting is one of the selected scenario alone
one-place : (with_cost two 0 (Some (pos 9))).scenarios ≡ no_change 2 3 ∷ record (no_change 2 3) { costs = Some (pos 9) ∷ None ∷ [] } ∷ []
one-place = refl

-- a scenario that was dropped and made again has no changes, and scenario 0 is selected
made-again : with_number (with_number (with_cost two 0 (Some (pos 9))) 1) 2 ≡ record two { selected = 0 }
made-again = refl

dropped-last : resized (record same { name = Some (97 ∷ []) } ∷ same ∷ []) 1 same ≡ record same { name = Some (97 ∷ []) } ∷ []
dropped-last = refl

-- no scenario comes before an unknown column, which comes before a large number
none-first : column_refusal 10 (record two { scenarios = [] }) 7 (Some (pos 11)) ≡ Some NoScenario
none-first = refl

column-first : column_refusal 10 two 2 (Some (pos 11)) ≡ Some UnknownColumn
column-first = refl

large-last : column_refusal 10 two 1 (Some (negsuc 10)) ≡ Some Magnitude
large-last = refl

at-the-limit : column_refusal 10 two 1 (Some (negsuc 9)) ≡ None
at-the-limit = refl

-- a row is removed on the side of its end alone, and never with a range or in an equation
removed-side : rhs_refusal two 0 (Some Inf) ≡ None
removed-side = refl

other-side : rhs_refusal two 0 (Some MinusInf) ≡ Some BadRemoval
other-side = refl

with-range : rhs_refusal two 1 (Some Inf) ≡ Some BadRemoval
with-range = refl

equation : rhs_refusal two 2 (Some Inf) ≡ Some BadRemoval
equation = refl

undefined-everywhere : rhs_refusal two 2 None ≡ None
undefined-everywhere = refl

row-first : rhs_refusal two 3 (Some Inf) ≡ Some UnknownRow
row-first = refl

select-last : select_refusal two 1 ≡ None
select-last = refl

select-past : select_refusal two 2 ≡ Some NoScenario
select-past = refl

with-blank : is_name (97 ∷ 32 ∷ 98 ∷ []) ≡ false
with-blank = refl

with-return : is_name (97 ∷ 13 ∷ []) ≡ false
with-return = refl

no-bytes : is_name [] ≡ false
no-bytes = refl

plain-name : is_name (97 ∷ 45 ∷ 98 ∷ []) ≡ true
plain-name = refl
