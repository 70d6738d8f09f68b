-- What is kept of the columns, behind lines of a text.
use Rattle.std.specs.Prelude.{◌≡◌, ◌&&◌, ℕ, Bool, false, List, [], ◌∷◌, length, codes, bytes_eq, nat_le, Option, Some, None, if◌then◌else◌, ℤ, ◌≤◌, unsigned_abs}
use Rattle.std.specs.List.{IsDistinct}
use Rattle.mps_reader.specs.MpsLines.{Line, field, data_of, is_marker, begins_column, column_starts, column_names, integer_names, in_integer_part, is_one_of, last_of}
use Rattle.mps_reader.specs.MpsRules.{first_kind, is_long}
use Rattle.mps_reader.specs.MpsModels.{bound_lines}
use Rattle.mps_reader.specs.ColumnBounds.{BoundsAgree}
use Rattle.mps_reader.specs.Tables.{IsTable}
use Rattle.mps_reader.specs.declared.MpsKind.{MpsKind}
use Rattle.mps_reader.specs.declared.MpsKind.TheVariants.{LongName, Duplicate, TooMany}
use Rattle.mps_reader.specs.declared.columns.ColumnDraft.{ColumnDraft}
use Rattle.std.specs.Option.{ForSome}

-- the column that the next line may continue
abbrev pub continued_by : Option Line → Option (List ℕ)
continued_by None = None
continued_by (Some l) = if is_marker l then None else Some (field 0 l)

abbrev pub current_of : List Line → Option (List ℕ)
current_of ls = continued_by (last_of (data_of (codes "COLUMNS") ls))

abbrev pub is_name : Option (List ℕ) → List ℕ → Bool
is_name None name = false
is_name (Some n) name = bytes_eq n name

-- the names, the column that may go on, and whether an integer part is open
pub record ColumnsReady (names : List (List ℕ)) (current : Option (List ℕ)) (part : Bool) (ls : List Line) : Type 0 where
  pub called : names ≡ column_names ls
  pub distinct : IsDistinct bytes_eq names
  pub goes_on : current ≡ current_of ls
  pub last : (o : List ℕ) → current ≡ Some o → last_of names ≡ Some o
  pub inside : part ≡ in_integer_part ls

-- a side that is set is infinite, or a number within the limit
abbrev pub IsLimited : Option (Option ℤ) → Type 0
IsLimited o = ForSome o (λ s. ForSome s (λ z. unsigned_abs z ≤ 1000000))

pub record HasColumn (ls : List Line) (name : List ℕ) (column : ColumnDraft) : Type 0 where
  pub named : column.name ≡ name
  pub bounds : BoundsAgree column.bounds (bound_lines ls name)
  pub marked : column.is_marked ≡ is_one_of (integer_names ls) name
  pub low_limit : IsLimited column.bounds.low
  pub high_limit : IsLimited column.bounds.high

pub record ColumnsAgree (names : List (List ℕ)) (columns : List ColumnDraft) (ls : List Line) : Type 0 where
  pub known : IsTable (HasColumn ls) names columns
  pub bounds_known : (n : List ℕ) → is_one_of names n ≡ false → bound_lines ls n ≡ []
  pub marks_known : (n : List ℕ) → is_one_of names n ≡ false → is_one_of (integer_names ls) n ≡ false

-- the kinds of a column's line that come before its numbers, where it has as many fields as it should
abbrev pub name_kind : List Line → Line → Option MpsKind
name_kind earlier l = first_kind (
    (begins_column earlier l && is_long (field 0 l), LongName)
    ∷ (begins_column earlier l && is_one_of (column_names earlier) (field 0 l), Duplicate)
    ∷ (begins_column earlier l && nat_le 1000 (length (column_starts earlier)), TooMany)
    ∷ [])
