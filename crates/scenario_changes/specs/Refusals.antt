-- When a setting is refused.
use Rattle.std.specs.Prelude.{ℕ, ℤ, Bool, not, nat_le, nat_lt, nat_eq, List, length, slice_index_or, Option, Some, None, if◌then◌else◌, true, false}
use Rattle.int_model.specs.Build.{side_exceeds}
use Rattle.int_model.specs.declared.model.Rhs.{Rhs}
use Rattle.int_model.specs.declared.model.RowSense.TheVariants.{E}
use Rattle.scenario_changes.specs.Changes.{ChangeSet, is_name, rhs_exceeds, may_have}
use Rattle.scenario_changes.specs.declared.change.RowShape.{RowShape}
use Rattle.scenario_changes.specs.declared.error.ChangeError.{ChangeError}
use Rattle.scenario_changes.specs.declared.error.ChangeError.TheVariants.{NoScenario, TooMany, UnknownColumn, UnknownRow, Magnitude, BadRemoval, BadName}

-- the first of two refusals
abbrev pub first_of : Option ChangeError → Option ChangeError → Option ChangeError
first_of (Some e) o = Some e
first_of None o = o

-- a refusal where a test holds
abbrev pub refuse_if : Bool → ChangeError → Option ChangeError
refuse_if b e = if b then Some e else None

abbrev pub no_scenario_refusal : ChangeSet → Option ChangeError
no_scenario_refusal c = refuse_if (nat_eq (length c.scenarios) 0) NoScenario

-- of more scenarios than the limit
abbrev pub number_refusal : ℕ → Option ChangeError
number_refusal n = refuse_if (nat_lt 64 n) TooMany

-- of a scenario that isn't there
abbrev pub select_refusal : ChangeSet → ℕ → Option ChangeError
select_refusal c k = refuse_if (nat_le (length c.scenarios) k) NoScenario

-- of a column's number, which has a limit
abbrev pub column_refusal : ℕ → ChangeSet → ℕ → Option ℤ → Option ChangeError
column_refusal limit c j v =
    first_of (no_scenario_refusal c)
    (first_of (refuse_if (nat_le c.columns j) UnknownColumn)
    (refuse_if (side_exceeds limit v) Magnitude))

-- the shape of a row; past the end that of a row that can't be removed
abbrev pub shape_at : ChangeSet → ℕ → RowShape
shape_at c i = slice_index_or c.rows i (record { sense = E; ranged = true })

abbrev pub rhs_refusal : ChangeSet → ℕ → Option Rhs → Option ChangeError
rhs_refusal c i v =
    first_of (no_scenario_refusal c)
    (first_of (refuse_if (nat_le (length c.rows) i) UnknownRow)
    (first_of (refuse_if (rhs_exceeds v) Magnitude)
    (refuse_if (not (may_have (shape_at c i) v)) BadRemoval)))

abbrev pub is_bad_name : Option (List ℕ) → Bool
is_bad_name None = false
is_bad_name (Some name) = not (is_name name)

abbrev pub name_refusal : ChangeSet → Option (List ℕ) → Option ChangeError
name_refusal c name = first_of (no_scenario_refusal c) (refuse_if (is_bad_name name) BadName)
