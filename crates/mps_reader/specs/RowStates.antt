-- What is kept of the rows, behind lines of a text.
use Rattle.std.specs.Prelude.{◌≡◌, ◌<◌, ◌≤◌, ◌-◌, ℕ, Bool, false, ◌&&◌, not, List, [], length, map, codes, bytes_eq, Option, Some, if◌then◌else◌, ◌^◌, ℤ}
use Rattle.std.specs.List.{list_any, IsDistinct, sum_by}
use Rattle.mps_reader.specs.MpsLines.{Line, Entry, field, data_of, free_rows, is_kept, is_objective, is_dropped, is_one_of, last_of}
use Rattle.mps_reader.specs.MpsRules.{term_count, set_kind}
use Rattle.mps_reader.specs.MpsModels.{given, terms_from}
use Rattle.mps_reader.specs.Tables.{IsTable}
use Rattle.mps_reader.specs.RowTables.{sense_with, sense_after}
pub use Rattle.mps_reader.specs.ColumnNumbers.{is_objective_role}
use Rattle.mps_reader.specs.ColumnNumbers.{makes_term, is_unread, is_column}
use Rattle.mps_reader.specs.SideNumbers.{ignores, side_of}
use Rattle.mps_reader.specs.declared.MpsKind.{MpsKind}
use Rattle.mps_reader.specs.declared.row_draft.RowRole.{RowRole}
use Rattle.mps_reader.specs.declared.row_draft.RowDraft.{RowDraft}
use Rattle.mps_reader.specs.declared.sides.Side.{Side}
use Rattle.mps_reader.specs.declared.sides.Side.TheVariants.{Rhs, Range}

abbrev pub row_names : List Line → List (List ℕ)
row_names ls = map (field 1) (data_of (codes "ROWS") ls)

-- how many terms the row gives the model
abbrev pub terms_for : RowRole → List (ℕ × ℤ) → ℕ
terms_for role terms = if makes_term role then length terms else 0

abbrev pub term_weight : RowDraft → ℕ
term_weight row = terms_for row.role row.terms.items

-- ---- roles

-- the row's role is what ROWS says of its name
pub record HasRole (ls : List Line) (name : List ℕ) (row : RowDraft) : Type 0 where
  pub free : is_one_of (free_rows ls) name ≡ not (makes_term row.role)
  pub objective : is_objective ls name ≡ is_objective_role row.role
  pub kept : is_kept ls name ≡ makes_term row.role
  pub named : row.name ≡ name

pub record RowsAgree (names : List (List ℕ)) (rows : List RowDraft) (ls : List Line) : Type 0 where
  pub called : names ≡ row_names ls
  pub distinct : IsDistinct bytes_eq names
  pub roles : IsTable (HasRole ls) names rows
  pub senses : map (λ r. sense_with r.role) rows ≡ map (λ l. sense_after (field 0 l)) (data_of (codes "ROWS") ls)

-- ---- numbers of RHS and RANGES

abbrev pub entry_with : List ℕ → List ℕ → List ℕ → Entry
entry_with owner row text = record { owner = owner; row = row; text = text }

-- the entry is the owner's for this row
abbrev pub is_entry : List ℕ → List ℕ → Entry → Bool
is_entry owner row e = bytes_eq e.owner owner && bytes_eq e.row row

abbrev pub is_given : List Entry → List ℕ → List ℕ → Bool
is_given es owner row = list_any (is_entry owner row) es

-- the number that the section has given the row
abbrev pub HasSide : Side → List Entry → List ℕ → RowDraft → Type 0
HasSide side es name row = ignores side row.role ≡ false → side_of side row ≡ given es [] name

pub record SideAgrees (side : Side) (names : List (List ℕ)) (rows : List RowDraft) (es : List Entry) : Type 0 where
  pub sides : IsTable (HasSide side es) names rows
  pub known : (n : List ℕ) → is_one_of names n ≡ false → (o : List ℕ) → is_given es o n ≡ false

abbrev pub word_of_side : Side → List ℕ
word_of_side Rhs = codes "RHS"
word_of_side Range = codes "RANGES"

abbrev pub ignored_by : Side → List Line → List ℕ → Bool
ignored_by Rhs ls = is_dropped ls
ignored_by Range ls = is_one_of (free_rows ls)

abbrev pub most_by : Side → List Line → List ℕ → ℕ
most_by Rhs ls = λ r. if is_objective ls r then 10 ^ 15 else 10 ^ 18
most_by Range ls = λ r. 10 ^ 18

abbrev pub side_line_kind : Side → List Line → Line → Option MpsKind
side_line_kind side ls l = set_kind (word_of_side side) (ignored_by side ls) (most_by side ls) ls l

-- ---- numbers of COLUMNS

-- the last column that gave the row a number is the last column, exactly where that has given it one; the terms are
-- those of all columns
pub record HasLast (columns : List (List ℕ)) (es : List Entry) (name : List ℕ) (row : RowDraft) : Type 0 where
  pub same : (o : List ℕ) → last_of columns ≡ Some o → is_unread row.role ≡ false → is_column row.last_column (length columns - 1) ≡ is_given es o name
  pub below : (k : ℕ) → row.last_column ≡ Some k → k < length columns
  pub terms : is_unread row.role ≡ false → row.terms.items ≡ terms_from 0 es columns name

pub record EntriesAgree (names : List (List ℕ)) (rows : List RowDraft) (columns : List (List ℕ)) (count : ℕ) (ls : List Line) (es : List Entry) : Type 0 where
  pub last : IsTable (HasLast columns es) names rows
  pub rows_known : (n : List ℕ) → is_one_of names n ≡ false → (o : List ℕ) → is_given es o n ≡ false
  pub owners_known : (o : List ℕ) → is_one_of columns o ≡ false → (n : List ℕ) → is_given es o n ≡ false
  pub counted : count ≡ term_count ls es
  pub few : count ≤ 100000
  pub apart : IsDistinct bytes_eq columns
  pub total : sum_by term_weight rows ≡ count
