-- Why a line is refused: its first kind.
use Rattle.std.specs.Prelude.{ℕ, ◌^◌, ℤ, Bool, true, not, nat_eq, nat_lt, if◌then◌else◌, List, [], ◌∷◌, length, map, slice_index_or, codes, bytes_eq, Option, Some, None, is_none, unwrap_or, Result, Ok, Err}
use Rattle.num_text.specs.Words.{is_one_of}
use Rattle.int_model.specs.Build.{side_exceeds}
use Rattle.int_model.specs.Models.{IntegerModel}
use Rattle.int_model.specs.declared.model.RowSense.TheVariants.{E}
use Rattle.int_model.specs.declared.model.Rhs.{Rhs}
use Rattle.scenario_changes.specs.Changes.{shape_of, rhs_exceeds, may_have}
use Rattle.scenario_changes.specs.declared.change.RowShape.{RowShape}
use Rattle.changes_reader.specs.Names.{column_names, row_names, number_named}
use Rattle.changes_reader.specs.Values.{count_of, scenario_of, value_of, rhs_of}
use Rattle.changes_reader.specs.declared.ChangesKind.{ChangesKind}
use Rattle.changes_reader.specs.declared.ChangesKind.TheVariants.{Header, Word, Fields, NoScenario, UnknownColumn, UnknownRow, LongName, Magnitude, BadRemoval}

abbrev pub kind_if : Bool → ChangesKind → Option ChangesKind
kind_if b kind = if b then Some kind else None

-- the first of two kinds
abbrev pub or_else : Option ChangesKind → Option ChangesKind → Option ChangesKind
or_else (Some kind) more = Some kind
or_else None more = more

abbrev pub kind_of : {X : Type 0} → Result X ChangesKind → Option ChangesKind
kind_of (Ok x) = None
kind_of (Err kind) = Some kind

-- of a value that is set, with its limit
abbrev pub value_kind : ℕ → Result (Option ℤ) ChangesKind → Option ChangesKind
value_kind limit (Ok v) = kind_if (side_exceeds limit v) Magnitude
value_kind limit (Err kind) = Some kind

-- of a right-hand side that is set in a row of this shape
abbrev pub rhs_kind : RowShape → Result (Option Rhs) ChangesKind → Option ChangesKind
rhs_kind shape (Ok v) = or_else (kind_if (rhs_exceeds v) Magnitude) (kind_if (not (may_have shape v)) BadRemoval)
rhs_kind shape (Err kind) = Some kind

-- of a setting that names something: whether there is a scenario to set, and whether the name is known
abbrev pub place_kind : ChangesKind → ℕ → Option ℕ → Option ChangesKind
place_kind unknown count place = or_else (kind_if (nat_eq count 0) NoScenario) (kind_if (is_none place) unknown)

abbrev pub column_kind : ℕ → ℕ → Option ℕ → Result (Option ℤ) ChangesKind → Option ChangesKind
column_kind limit count place value = or_else (place_kind UnknownColumn count place) (value_kind limit value)

-- the shape of row i; past the end that of a row that can't be removed
abbrev pub shape_in : List RowShape → ℕ → RowShape
shape_in shapes i = slice_index_or shapes i (record { sense = E; ranged = true })

abbrev pub row_kind : List RowShape → ℕ → Option ℕ → Result (Option Rhs) ChangesKind → Option ChangesKind
row_kind shapes count place value = or_else (place_kind UnknownRow count place) (rhs_kind (shape_in shapes (unwrap_or place 0)) value)

abbrev pub name_kind : ℕ → List ℕ → Option ChangesKind
name_kind count name = or_else (kind_if (nat_eq count 0) NoScenario) (kind_if (nat_lt 255 (length name)) LongName)

-- the words of a line, and how many fields each line has
abbrev pub words : List (List ℕ)
words = codes "scenarios" ∷ codes "scenario" ∷ codes "name" ∷ codes "obj" ∷ codes "lb" ∷ codes "ub" ∷ codes "rhs" ∷ []

abbrev pub field_count : List ℕ → ℕ
field_count word = if is_one_of (codes "scenarios" ∷ codes "scenario" ∷ codes "name" ∷ []) word then 2 else 3

-- a line `scenarios` that isn't the first, or a first line that is another
abbrev pub is_misplaced : Bool → List ℕ → Bool
is_misplaced first word = if first then not (bytes_eq word (codes "scenarios")) else bytes_eq word (codes "scenarios")

abbrev pub word_kind : Bool → List ℕ → Option ChangesKind
word_kind first word = or_else (kind_if (is_misplaced first word) Header) (kind_if (not (is_one_of words word)) Word)

-- of a line by its word and its further fields, where there are so many scenarios
abbrev pub own_kind : IntegerModel → ℕ → List ℕ → List ℕ → List ℕ → Option ChangesKind
own_kind m count word one two =
    if bytes_eq word (codes "scenarios") then kind_of (count_of one) else
    if bytes_eq word (codes "scenario") then kind_of (scenario_of count one) else
    if bytes_eq word (codes "name") then name_kind count one else
    if bytes_eq word (codes "rhs") then row_kind (map shape_of m.rows) count (number_named (row_names m) one) (rhs_of two) else
    column_kind (if bytes_eq word (codes "obj") then 10 ^ 9 else 10 ^ 6) count (number_named (column_names m) one) (value_of two)

-- of a line by its fields, which is the first line or not
abbrev pub line_kind : IntegerModel → Bool → ℕ → List (List ℕ) → Option ChangesKind
line_kind m first count fields =
    or_else (word_kind first (slice_index_or fields 0 []))
    (or_else (kind_if (not (nat_eq (length fields) (field_count (slice_index_or fields 0 [])))) Fields)
    (own_kind m count (slice_index_or fields 0 []) (slice_index_or fields 1 []) (slice_index_or fields 2 [])))
