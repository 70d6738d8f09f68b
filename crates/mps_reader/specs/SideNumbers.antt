-- The number that RHS or RANGES gives for one row.
use Rattle.std.specs.Prelude.{◌≡◌, ℕ, ◌^◌, ℤ, Bool, true, false, List, [], ◌∷◌, Option, Some, None, is_some, if◌then◌else◌}
use Rattle.mps_reader.specs.MpsRules.{first_kind, or_else, number_kind}
use Rattle.mps_reader.specs.MpsModels.{number_or_zero}
use Rattle.mps_reader.specs.declared.MpsKind.{MpsKind}
use Rattle.mps_reader.specs.declared.MpsKind.TheVariants.{Duplicate}
use Rattle.mps_reader.specs.declared.row_draft.RowRole.{RowRole}
use Rattle.mps_reader.specs.declared.row_draft.RowRole.TheVariants.{Objective, Dropped, Kept}
use Rattle.mps_reader.specs.declared.row_draft.RowDraft.{RowDraft}
use Rattle.mps_reader.specs.declared.sides.Side.{Side}
use Rattle.mps_reader.specs.declared.sides.Side.TheVariants.{Rhs, Range}

-- the section reads no number of such a row
abbrev pub ignores : Side → RowRole → Bool
ignores side Dropped = true
ignores Rhs Objective = false
ignores Range Objective = true
ignores side (Kept sense) = false

-- the greatest absolute value of the number
abbrev pub most_of : Side → RowRole → ℕ
most_of Rhs Objective = 10 ^ 15
most_of Range Objective = 10 ^ 18
most_of side Dropped = 10 ^ 18
most_of side (Kept sense) = 10 ^ 18

-- the number that the section has given the row
abbrev pub side_of : Side → RowDraft → Option ℤ
side_of Rhs row = row.rhs
side_of Range row = row.range

abbrev pub other_of : Side → Side
other_of Rhs = Range
other_of Range = Rhs

-- why a number for the row is refused
abbrev pub side_kind : Side → RowDraft → List ℕ → Option MpsKind
side_kind side row text =
    if ignores side row.role then None else or_else (first_kind ((is_some (side_of side row), Duplicate) ∷ [])) (number_kind (most_of side row.role) text)

-- the number behind a pair that is good
abbrev pub side_then : Side → RowDraft → List ℕ → Option ℤ
side_then side row text = if ignores side row.role then side_of side row else Some (number_or_zero text)

-- all but this section's number is the same
pub record IsSameBesides (side : Side) (old new : RowDraft) : Type 0 where
  pub name : new.name ≡ old.name
  pub role : new.role ≡ old.role
  pub other : side_of (other_of side) new ≡ side_of (other_of side) old
  pub last_column : new.last_column ≡ old.last_column
  pub terms : new.terms ≡ old.terms
