-- The draft of a model, behind lines of a text.
use Rattle.std.specs.Prelude.{◌≡◌, ℕ, Bool, true, false, List, [], ◌∷◌, ◌++◌, None, codes, option_map, unwrap_or, if◌then◌else◌, ◌≤◌, length}
use Rattle.mps_reader.specs.MpsLines.{Line, field, column_names, headers_of, last_of, entries_of, sets_of, kept_rows}
use Rattle.mps_reader.specs.MpsRules.{line_kind, direction_words}
use Rattle.mps_reader.specs.MpsModels.{is_end}
use Rattle.mps_reader.specs.Openings.{HeadersAgree, direction_of}
use Rattle.mps_reader.specs.RowTables.{RowsReady}
use Rattle.mps_reader.specs.Sets.{AgreesWith}
use Rattle.mps_reader.specs.Tables.{texts_of}
use Rattle.mps_reader.specs.RowStates.{RowsAgree, SideAgrees, EntriesAgree}
use Rattle.mps_reader.specs.ColumnStates.{ColumnsReady, ColumnsAgree}
use Rattle.mps_reader.specs.declared.draft.Draft.{Draft}
use Rattle.mps_reader.specs.declared.draft.Progress.{Progress}
use Rattle.mps_reader.specs.declared.draft.Progress.TheVariants.{More, Ended}
use Rattle.mps_reader.specs.declared.sides.Side.TheVariants.{Rhs, Range}

-- what is kept is what the lines say
pub record Agrees (d : Draft) (ls : List Line) : Type 0 where
  pub opening : HeadersAgree d.headers ls
  pub ready : RowsReady d.rows.table.names.keys d.rows.kept d.rows.has_objective ls
  pub roles : RowsAgree (texts_of d.rows.table.names.keys) d.rows.table.items.items ls
  pub sides : SideAgrees Rhs (texts_of d.rows.table.names.keys) d.rows.table.items.items (entries_of (codes "RHS") ls)
  pub ranges : SideAgrees Range (texts_of d.rows.table.names.keys) d.rows.table.items.items (entries_of (codes "RANGES") ls)
  pub heads : ColumnsReady (texts_of d.columns.table.names.keys) (option_map (λ c. c.now) d.columns.current) d.columns.in_integer_part ls
  pub bounds : ColumnsAgree (texts_of d.columns.table.names.keys) d.columns.table.items.items ls
  pub numbers : EntriesAgree (texts_of d.rows.table.names.keys) d.rows.table.items.items (texts_of d.columns.table.names.keys) d.columns.entries ls (entries_of (codes "COLUMNS") ls)
  pub rhs_sets : AgreesWith d.rhs_set.first (sets_of (codes "RHS") ls)
  pub range_sets : AgreesWith d.range_set.first (sets_of (codes "RANGES") ls)
  pub bound_sets : AgreesWith d.bound_set.first (sets_of (codes "BOUNDS") ls)

-- the rows, the columns and the direction are what the lines say
pub record HasParts (d : Draft) (ls : List Line) : Type 0 where
  pub roles : RowsAgree (texts_of d.rows.table.names.keys) d.rows.table.items.items ls
  pub sides : SideAgrees Rhs (texts_of d.rows.table.names.keys) d.rows.table.items.items (entries_of (codes "RHS") ls)
  pub ranges : SideAgrees Range (texts_of d.rows.table.names.keys) d.rows.table.items.items (entries_of (codes "RANGES") ls)
  pub called : texts_of d.columns.table.names.keys ≡ column_names ls
  pub bounds : ColumnsAgree (texts_of d.columns.table.names.keys) d.columns.table.items.items ls
  pub numbers : EntriesAgree (texts_of d.rows.table.names.keys) d.rows.table.items.items (texts_of d.columns.table.names.keys) d.columns.entries ls (entries_of (codes "COLUMNS") ls)
  pub direction : d.headers.direction ≡ direction_of (direction_words ls)
  pub few_rows : length (kept_rows ls) ≤ 1000

-- the section of the last header
abbrev pub section_behind : List Line → List ℕ
section_behind ls = unwrap_or (last_of (headers_of ls)) []

-- the line that fields make behind these lines
pub record IsLineBehind (header : Bool) (ls : List Line) (l : Line) (words : List (List ℕ)) : Type 0 where
  pub kind : l.header ≡ header
  pub section : l.section ≡ (if header then field 0 l else section_behind ls)
  pub fields : l.fields ≡ words

abbrev pub is_ended : Progress → Bool
is_ended More = false
is_ended Ended = true

-- a good line was taken
pub record IsTaken (d : Draft) (progress : Progress) (ls : List Line) (l : Line) : Type 0 where
  pub good : line_kind ls l ≡ None
  pub ends : is_ended progress ≡ is_end l
  pub agrees : Agrees d (ls ++ l ∷ [])
