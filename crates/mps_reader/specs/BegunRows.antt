-- A row of which only ROWS has spoken.
use Rattle.std.specs.Prelude.{◌≡◌, ℕ, false, List, [], ◌∷◌, ◌++◌, None}
use Rattle.mps_reader.specs.MpsLines.{Line, field, is_one_of}
use Rattle.mps_reader.specs.RowTables.{role_after}
use Rattle.mps_reader.specs.declared.row_draft.RowDraft.{RowDraft}

pub record IsBegun (row : RowDraft) (earlier : List Line) (l : Line) : Type 0 where
  pub name : row.name ≡ field 1 l
  pub role : row.role ≡ role_after earlier l
  pub rhs : row.rhs ≡ None
  pub range : row.range ≡ None
  pub last_column : row.last_column ≡ None
  pub terms : row.terms.items ≡ []

-- a row was added behind the others
pub record IsRowPushed (names : List (List ℕ)) (rows : List RowDraft) (new_names : List (List ℕ)) (new_rows : List RowDraft) (earlier : List Line) (l : Line) : Type 0 where
  pub row : RowDraft
  pub begun : IsBegun row earlier l
  pub pushed : new_rows ≡ rows ++ row ∷ []
  pub called : new_names ≡ names ++ field 1 l ∷ []
  pub absent : is_one_of names (field 1 l) ≡ false
