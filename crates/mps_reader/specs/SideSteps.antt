-- What a pair or a line of RHS or RANGES does to the rows.
use Rattle.std.specs.Prelude.{◌≡◌, ℕ, List, [], ◌∷◌, ◌++◌, Option, Some, None}
use Rattle.std.specs.Borrow.{Bor}
use Rattle.mps_reader.specs.MpsLines.{Line, Entry, entries_of, sets_of}
use Rattle.mps_reader.specs.MpsRules.{entry_kind, entries_kind}
use Rattle.mps_reader.specs.Sets.{AgreesWith}
use Rattle.mps_reader.specs.Tables.{texts_of}
use Rattle.mps_reader.specs.RowStates.{RowsAgree, SideAgrees, ignored_by, most_by, word_of_side, side_line_kind}
use Rattle.mps_reader.specs.declared.MpsKind.{MpsKind}
use Rattle.mps_reader.specs.declared.sides.Side.{Side}
use Rattle.mps_reader.specs.declared.row_draft.RowDraft.{RowDraft}

-- why an entry is refused behind others of its section
abbrev pub pair_kind : Side → List Line → List Entry → Entry → Option MpsKind
pair_kind side ls before e = entry_kind ls (ignored_by side ls) (most_by side ls) before e

-- the entries are good behind any that the old rows agree with, and the new rows agree with them too
abbrev pub TakesPairs : Side → List (Bor (List ℕ)) → List RowDraft → List RowDraft → List Entry → Type 0
TakesPairs side keys old new added = (ls : List Line) (es : List Entry) → RowsAgree (texts_of keys) old ls → SideAgrees side (texts_of keys) old es → (entries_kind (pair_kind side ls) es added ≡ None) × SideAgrees side (texts_of keys) new (es ++ added)

abbrev pub RefusesPairs : Side → List (Bor (List ℕ)) → List RowDraft → List Entry → MpsKind → Type 0
RefusesPairs side keys old added kind = (ls : List Line) (es : List Entry) → RowsAgree (texts_of keys) old ls → SideAgrees side (texts_of keys) old es → entries_kind (pair_kind side ls) es added ≡ Some kind

-- the rows and the name of the set agree with the lines
pub record SideReady (side : Side) (set : Option (Bor (List ℕ))) (keys : List (Bor (List ℕ))) (rows : List RowDraft) (ls : List Line) : Type 0 where
  pub roles : RowsAgree (texts_of keys) rows ls
  pub numbers : SideAgrees side (texts_of keys) rows (entries_of (word_of_side side) ls)
  pub sets : AgreesWith set (sets_of (word_of_side side) ls)

pub record SideThen (side : Side) (set : Option (Bor (List ℕ))) (keys : List (Bor (List ℕ))) (rows : List RowDraft) (ls : List Line) (l : Line) : Type 0 where
  pub good : side_line_kind side ls l ≡ None
  pub numbers : SideAgrees side (texts_of keys) rows (entries_of (word_of_side side) (ls ++ l ∷ []))
  pub sets : AgreesWith set (sets_of (word_of_side side) (ls ++ l ∷ []))
