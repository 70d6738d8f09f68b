-- The number that a column gives for one row.
use Rattle.std.specs.Prelude.{ℕ, ◌^◌, Bool, true, false, ◌&&◌, nat_le, nat_eq, List, [], ◌∷◌, Option, Some, None, if◌then◌else◌}
use Rattle.mps_reader.specs.MpsRules.{first_kind, or_else, number_kind, is_nonzero, is_long}
use Rattle.mps_reader.specs.MpsLines.{is_one_of}
use Rattle.mps_reader.specs.declared.MpsKind.{MpsKind}
use Rattle.mps_reader.specs.declared.MpsKind.TheVariants.{Duplicate, TooMany, LongName}
use Rattle.mps_reader.specs.declared.row_draft.RowRole.{RowRole}
use Rattle.mps_reader.specs.declared.row_draft.RowRole.TheVariants.{Objective, Dropped, Kept}

abbrev pub makes_term : RowRole → Bool
makes_term Objective = false
makes_term Dropped = false
makes_term (Kept sense) = true

abbrev pub is_objective_role : RowRole → Bool
is_objective_role Objective = true
is_objective_role Dropped = false
is_objective_role (Kept sense) = false

abbrev pub is_unread : RowRole → Bool
is_unread Objective = false
is_unread Dropped = true
is_unread (Kept sense) = false

-- why a number for a row of this role is refused; entries is the number of terms so far
abbrev pub number_for_kind : RowRole → Bool → ℕ → List ℕ → Option MpsKind
number_for_kind role is_given entries text =
    if is_unread role then None else
    or_else (or_else (first_kind ((is_given, Duplicate) ∷ [])) (number_kind (10 ^ 9) text)) (first_kind ((makes_term role && is_nonzero text && nat_le 100000 entries, TooMany) ∷ []))

-- why a new column is refused, behind columns with these names
abbrev pub new_column_kind : List (List ℕ) → ℕ → List ℕ → Option MpsKind
new_column_kind names count name = first_kind ((is_long name, LongName) ∷ (is_one_of names name, Duplicate) ∷ (nat_le 1000 count, TooMany) ∷ [])

-- the column has given the row a number already
abbrev pub is_column : Option ℕ → ℕ → Bool
is_column None column = false
is_column (Some last) column = nat_eq last column
