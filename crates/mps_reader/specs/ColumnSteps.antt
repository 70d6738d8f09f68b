-- What a pair or a line of COLUMNS does to the columns and the rows.
use Rattle.std.specs.Prelude.{◌≡◌, ◌+◌, ℕ, Bool, true, false, List, [], ◌∷◌, ◌++◌, length, nat_le, codes, Option, Some, None}
use Rattle.std.specs.Borrow.{Bor}
use Rattle.mps_reader.specs.MpsLines.{Line, Entry, field, pairs, is_marker, starts_column, entries_of, is_one_of, last_of}
use Rattle.mps_reader.specs.MpsRules.{entries_kind, term_kind, column_kind, is_long}
use Rattle.mps_reader.specs.Faults.{IsFault}
use Rattle.mps_reader.specs.Tables.{texts_of, IsAlong}
use Rattle.mps_reader.specs.ColumnBounds.{BoundsAgree}
use Rattle.mps_reader.specs.RowStates.{RowsAgree, EntriesAgree}
use Rattle.mps_reader.specs.ColumnStates.{ColumnsReady}
use Rattle.mps_reader.specs.declared.fault.Fault.{Fault}
use Rattle.mps_reader.specs.declared.columns.ColumnDraft.{ColumnDraft}
use Rattle.mps_reader.specs.declared.row_draft.RowDraft.{RowDraft}

-- all but the last column and the terms is the same
pub record HasSameSides (old new : RowDraft) : Type 0 where
  pub name : new.name ≡ old.name
  pub role : new.role ≡ old.role
  pub rhs : new.rhs ≡ old.rhs
  pub range : new.range ≡ old.range

-- the columns are the same
pub record HasSameBounds (old new : ColumnDraft) : Type 0 where
  pub name : new.name ≡ old.name
  pub marked : new.is_marked ≡ old.is_marked
  pub bounds : new.bounds ≡ old.bounds

-- the pairs are good numbers of the last column behind any entries that the old rows agree with, and the new rows agree with them too
abbrev pub TakesTerms : List (Bor (List ℕ)) → ℕ → List RowDraft → ℕ → List RowDraft → ℕ → List (List ℕ) → Type 0
TakesTerms keys column old count new new_count words = (ls : List Line) (es : List Entry) (columns : List (List ℕ)) (owner : List ℕ) → RowsAgree (texts_of keys) old ls → EntriesAgree (texts_of keys) old columns count ls es → last_of columns ≡ Some owner → length columns ≡ column + 1 → (entries_kind (term_kind ls) es (pairs owner words) ≡ None) × EntriesAgree (texts_of keys) new columns new_count ls (es ++ pairs owner words)

abbrev pub RefusesTerms : List (Bor (List ℕ)) → ℕ → List RowDraft → ℕ → List (List ℕ) → Fault → Type 0
RefusesTerms keys column old count words fault = (ls : List Line) (es : List Entry) (columns : List (List ℕ)) (owner : List ℕ) → RowsAgree (texts_of keys) old ls → EntriesAgree (texts_of keys) old columns count ls es → last_of columns ≡ Some owner → length columns ≡ column + 1 → IsFault fault (entries_kind (term_kind ls) es (pairs owner words))

-- a column of which only its first line has spoken
pub record IsBegunColumn (column : ColumnDraft) (name : List ℕ) (part : Bool) : Type 0 where
  pub named : column.name ≡ name
  pub marked : column.is_marked ≡ part
  pub bounds : BoundsAgree column.bounds []

-- a column was added behind the others
pub record IsColumnPushed (names : List (List ℕ)) (columns : List ColumnDraft) (new_names : List (List ℕ)) (new_columns : List ColumnDraft) (part : Bool) (name : List ℕ) : Type 0 where
  pub column : ColumnDraft
  pub begun : IsBegunColumn column name part
  pub pushed : new_columns ≡ columns ++ column ∷ []
  pub called : new_names ≡ names ++ name ∷ []
  pub short : is_long name ≡ false
  pub absent : is_one_of names name ≡ false
  pub few : nat_le 1000 (length columns) ≡ false

-- a line that begins a column adds it, and another line adds none
abbrev pub AddsColumn : Bool → List (List ℕ) → List ColumnDraft → List (List ℕ) → List ColumnDraft → Bool → List ℕ → Type 0
AddsColumn true names columns new_names new_columns part name = IsColumnPushed names columns new_names new_columns part name
AddsColumn false names columns new_names new_columns part name = (new_names ≡ names) × (new_columns ≡ columns)

-- a line of the section that is no marker and names this column
pub record IsColumnLine (l : Line) (name : List ℕ) : Type 0 where
  pub header : l.header ≡ false
  pub section : l.section ≡ codes "COLUMNS"
  pub named : field 0 l ≡ name
  pub plain : is_marker l ≡ false

-- the columns behind a line that may add one
pub record AreGrown (starts : Bool) (names : List (List ℕ)) (columns : List ColumnDraft) (new_names : List (List ℕ)) (new_columns : List ColumnDraft) (part : Bool) (name : List ℕ) : Type 0 where
  pub middle : List ColumnDraft
  pub added : AddsColumn starts names columns new_names middle part name
  pub along : IsAlong HasSameBounds middle new_columns

-- the rows and the columns agree with the lines
pub record ColumnReady (row_keys : List (Bor (List ℕ))) (rows : List RowDraft) (keys : List (Bor (List ℕ))) (current : Option (List ℕ)) (part : Bool) (count : ℕ) (ls : List Line) : Type 0 where
  pub roles : RowsAgree (texts_of row_keys) rows ls
  pub heads : ColumnsReady (texts_of keys) current part ls
  pub numbers : EntriesAgree (texts_of row_keys) rows (texts_of keys) count ls (entries_of (codes "COLUMNS") ls)

pub record ColumnThen (row_keys : List (Bor (List ℕ))) (new_rows : List RowDraft) (keys : List (Bor (List ℕ))) (columns : List ColumnDraft) (part : Bool) (new_keys : List (Bor (List ℕ))) (new_columns : List ColumnDraft) (new_current : Option (List ℕ)) (new_part : Bool) (new_count : ℕ) (ls : List Line) (l : Line) : Type 0 where
  pub good : column_kind ls l ≡ None
  pub heads : ColumnsReady (texts_of new_keys) new_current new_part (ls ++ l ∷ [])
  pub numbers : EntriesAgree (texts_of row_keys) new_rows (texts_of new_keys) new_count ls (entries_of (codes "COLUMNS") (ls ++ l ∷ []))
  pub grown : AreGrown (starts_column ls l) (texts_of keys) columns (texts_of new_keys) new_columns part (field 0 l)
