-- The lines of a model text, and what stands in them.
use Rattle.std.specs.Prelude.{ℕ, ◌%◌, Bool, true, false, ◌&&◌, ◌||◌, not, nat_eq, nat_lt, if◌then◌else◌, List, [], ◌∷◌, ◌++◌, length, drop, filter, filter_map, flat_map, slice_index_or, codes, Option, Some, None, map, bytes_eq}
use Rattle.std.specs.List.{list_any, enumerate_from}
use Rattle.num_text.specs.Lines.{lines_of, fields_of, is_blank}
pub use Rattle.num_text.specs.Words.{is_read, is_one_of, last_of}

-- a line with fields: its number, the header that it is or stands under, whether it is one, and the fields
pub record Line : Type 0 where
  pub number : ℕ
  pub section : List ℕ
  pub header : Bool
  pub fields : List (List ℕ)

abbrev pub is_header : List ℕ → Bool
is_header [] = false
is_header (b ∷ bytes) = not (is_blank b)

abbrev pub field : ℕ → Line → List ℕ
field k l = slice_index_or l.fields k []

abbrev pub header_after : List ℕ → List ℕ → List ℕ
header_after section bytes = if is_header bytes then slice_index_or (fields_of bytes) 0 [] else section

-- the lines that are read, each with the last header's name
abbrev pub under_headers : List ℕ → List (ℕ × List ℕ) → List Line
under_headers section [] = []
under_headers section ((n, bytes) ∷ more) =
    record { number = n; section = header_after section bytes; header = is_header bytes; fields = fields_of bytes } ∷ under_headers (header_after section bytes) more

abbrev pub mps_lines : List ℕ → List Line
mps_lines bytes = under_headers [] (filter (λ (l : ℕ × List ℕ). is_read l.1) (enumerate_from 1 (lines_of bytes)))

-- ---- selections

abbrev pub is_data_of : List ℕ → Line → Bool
is_data_of section l = not l.header && bytes_eq l.section section

abbrev pub data_of : List ℕ → List Line → List Line
data_of section ls = filter (is_data_of section) ls

abbrev pub headers_of : List Line → List (List ℕ)
headers_of ls = filter_map (λ (l : Line). if l.header then Some l.section else None) ls

-- the names of the rows with a sense, in their order
abbrev pub is_free : Line → Bool
is_free l = bytes_eq (field 0 l) (codes "N")

abbrev pub free_rows : List Line → List (List ℕ)
free_rows ls = map (field 1) (filter is_free (data_of (codes "ROWS") ls))

abbrev pub kept_rows : List Line → List Line
kept_rows ls = filter (λ l. not (is_free l)) (data_of (codes "ROWS") ls)

abbrev pub is_kept : List Line → List ℕ → Bool
is_kept ls name = list_any (λ l. bytes_eq (field 1 l) name) (kept_rows ls)

-- the first free row is the objective, and the further ones are dropped
abbrev pub is_first : List (List ℕ) → List ℕ → Bool
is_first [] name = false
is_first (n ∷ ns) name = bytes_eq n name

abbrev pub is_objective : List Line → List ℕ → Bool
is_objective ls name = is_first (free_rows ls) name

abbrev pub is_dropped : List Line → List ℕ → Bool
is_dropped ls name = is_one_of (free_rows ls) name && not (is_objective ls name)

-- ---- columns

abbrev pub is_marker : Line → Bool
is_marker l = bytes_eq (field 1 l) (codes "'MARKER'")

abbrev pub column_lines : List Line → List Line
column_lines ls = filter (λ l. not (is_marker l)) (data_of (codes "COLUMNS") ls)

-- the line begins a column: the line before it in its section is a marker or names another column
abbrev pub begins_behind : Option Line → List ℕ → Bool
begins_behind None name = true
begins_behind (Some k) name = is_marker k || not (bytes_eq (field 0 k) name)

abbrev pub begins_column : List Line → Line → Bool
begins_column earlier l = begins_behind (last_of (data_of (codes "COLUMNS") earlier)) (field 0 l)

abbrev pub cons_if : {X : Type 0} → Bool → X → List X → List X
cons_if true x xs = x ∷ xs
cons_if false x xs = xs

-- the elements that pass a test which sees those before them
abbrev pub filter_after : {X : Type 0} → (List X → X → Bool) → List X → List X → List X
filter_after test before [] = []
filter_after test before (x ∷ xs) = cons_if (test before x) x (filter_after test (before ++ x ∷ []) xs)

abbrev pub starts_column : List Line → Line → Bool
starts_column before l = is_data_of (codes "COLUMNS") l && not (is_marker l) && begins_column before l

abbrev pub column_starts : List Line → List Line
column_starts ls = filter_after starts_column [] ls

abbrev pub column_names : List Line → List (List ℕ)
column_names ls = map (field 0) (column_starts ls)

-- the last marker before the line begins an integer part
abbrev pub begins_part : Option Line → Bool
begins_part None = false
begins_part (Some k) = bytes_eq (field 2 k) (codes "'INTORG'")

abbrev pub in_integer_part : List Line → Bool
in_integer_part earlier = begins_part (last_of (filter is_marker (data_of (codes "COLUMNS") earlier)))

abbrev pub integer_names : List Line → List (List ℕ)
integer_names ls = map (field 0) (filter_after (λ before l. starts_column before l && in_integer_part before) [] ls)

-- ---- entries: a number for a row, in a column or in a section

pub record Entry : Type 0 where
  pub owner : List ℕ
  pub row : List ℕ
  pub text : List ℕ

abbrev pub pairs : List ℕ → List (List ℕ) → List Entry
pairs owner [] = []
pairs owner (r ∷ []) = []
pairs owner (r ∷ t ∷ more) = record { owner = owner; row = r; text = t } ∷ pairs owner more

abbrev pub column_entries : Line → List Entry
column_entries l = pairs (field 0 l) (drop 1 l.fields)

-- an odd number of fields begins with the name of a set
abbrev pub has_set : Line → Bool
has_set l = nat_eq (length l.fields % 2) 1

abbrev pub set_entries : Line → List Entry
set_entries l = pairs [] (if has_set l then drop 1 l.fields else l.fields)

abbrev pub entries_of : List ℕ → List Line → List Entry
entries_of section ls = if bytes_eq section (codes "COLUMNS") then flat_map column_entries (column_lines ls) else flat_map set_entries (data_of section ls)

-- ---- bounds

abbrev pub takes_value : List ℕ → Bool
takes_value kind = is_one_of (codes "LO" ∷ codes "UP" ∷ codes "FX" ∷ codes "LI" ∷ codes "UI" ∷ []) kind

abbrev pub takes_none : List ℕ → Bool
takes_none kind = is_one_of (codes "FR" ∷ codes "MI" ∷ codes "PL" ∷ codes "BV" ∷ []) kind

-- whether a bound's line names a set
abbrev pub bound_has_set : Line → Bool
bound_has_set l = if takes_value (field 0 l) then nat_eq (length l.fields) 4 else nat_lt 2 (length l.fields)

abbrev pub bound_column : Line → List ℕ
bound_column l = if bound_has_set l then field 2 l else field 1 l

abbrev pub bound_text : Line → List ℕ
bound_text l = if bound_has_set l then field 3 l else field 2 l

-- the set that a line of a section names
abbrev pub set_of : List ℕ → Line → Option (List ℕ)
set_of section l = if (if bytes_eq section (codes "BOUNDS") then bound_has_set l else has_set l) then Some (if bytes_eq section (codes "BOUNDS") then field 1 l else field 0 l) else None

-- the sets that the lines of a section name
abbrev pub sets_of : List ℕ → List Line → List (List ℕ)
sets_of section ls = filter_map (set_of section) (data_of section ls)
