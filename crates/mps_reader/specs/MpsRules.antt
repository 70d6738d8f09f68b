-- When a line of a model text is refused, given the lines before it, and why.
use Rattle.std.specs.Prelude.{ℕ, ◌^◌, ℤ, unsigned_abs, Bool, true, false, ◌&&◌, ◌||◌, not, nat_eq, nat_lt, nat_le, if◌then◌else◌, List, [], ◌∷◌, ◌++◌, length, count_by, codes, Option, Some, None, Ok, Err, Result, map, bytes_eq}
use Rattle.std.specs.List.{list_any, list_all}
use Rattle.num_text.specs.NumberText.{number_of}
use Rattle.mps_reader.specs.MpsLines.{Line, Entry, field, data_of, headers_of, is_one_of, free_rows, kept_rows, is_free, is_kept, is_objective, is_dropped, is_marker, begins_column, column_starts, column_names, entries_of, column_entries, set_entries, has_set, takes_value, takes_none, bound_has_set, bound_column, bound_text, sets_of, last_of}
use Rattle.num_text.specs.declared.number.NumberError.{NumberError}
use Rattle.num_text.specs.declared.number.NumberError.TheVariants as number
use Rattle.mps_reader.specs.declared.MpsKind.{MpsKind}
use Rattle.mps_reader.specs.declared.MpsKind.TheVariants.{Section, Fields, UnknownRow, UnknownColumn, Duplicate, LongName, Number, Fraction, Magnitude, SecondSet, TooMany}

-- the kind of the first test that is true
abbrev pub first_kind : List (Bool × MpsKind) → Option MpsKind
first_kind [] = None
first_kind ((true, kind) ∷ more) = Some kind
first_kind ((false, kind) ∷ more) = first_kind more

-- the first kind that is there
abbrev pub or_else : Option MpsKind → Option MpsKind → Option MpsKind
or_else None more = more
or_else (Some kind) more = Some kind

abbrev pub is_long : List ℕ → Bool
is_long name = nat_lt 255 (length name)

abbrev pub result_kind : ℕ → Result ℤ NumberError → Option MpsKind
result_kind most (Ok z) = if nat_lt most (unsigned_abs z) then Some Magnitude else None
result_kind most (Err number.NotNumber) = Some Number
result_kind most (Err number.Fraction) = Some Fraction
result_kind most (Err number.TooWide) = Some Magnitude

-- a number text of a whole number of at most this absolute value
abbrev pub number_kind : ℕ → List ℕ → Option MpsKind
number_kind most text = result_kind most (number_of text)

abbrev pub is_nonzero_result : Result ℤ NumberError → Bool
is_nonzero_result (Ok z) = nat_lt 0 (unsigned_abs z)
is_nonzero_result (Err e) = false

abbrev pub is_nonzero : List ℕ → Bool
is_nonzero text = is_nonzero_result (number_of text)

-- ---- headers

-- the headers that may stand before this one, the last of them first in mind
abbrev pub may_follow : List (List ℕ) → List ℕ → Bool
may_follow before name =
    (bytes_eq name (codes "NAME") && nat_eq (length before) 0)
    || (bytes_eq name (codes "OBJSENSE") && list_all (bytes_eq (codes "NAME")) before)
    || (bytes_eq name (codes "ROWS") && list_all (is_one_of (codes "NAME" ∷ codes "OBJSENSE" ∷ [])) before)
    || (bytes_eq name (codes "COLUMNS") && is_last (codes "ROWS"))
    || (is_one_of (codes "RHS" ∷ codes "RANGES" ∷ codes "BOUNDS" ∷ []) name && is_one_of before (codes "COLUMNS") && not (is_one_of before name))
    || (bytes_eq name (codes "ENDATA") && is_one_of before (codes "COLUMNS"))
  where
    is_last : List ℕ → Bool
    is_last word = by_last (last_of before)
      where
        by_last : Option (List ℕ) → Bool
        by_last None = false
        by_last (Some h) = bytes_eq h word

abbrev pub is_maximum : List ℕ → Bool
is_maximum word = is_one_of (codes "MAX" ∷ codes "MAXIMIZE" ∷ []) word

abbrev pub is_direction : List ℕ → Bool
is_direction word = is_maximum word || is_one_of (codes "MIN" ∷ codes "MINIMIZE" ∷ []) word

-- the words that were given as a direction: the header's second field, and the first field of each data line
abbrev pub direction_words : List Line → List (List ℕ)
direction_words [] = []
direction_words (l ∷ ls) = if bytes_eq l.section (codes "OBJSENSE") then (if l.header then (if nat_lt 1 (length l.fields) then field 1 l ∷ direction_words ls else direction_words ls) else field 0 l ∷ direction_words ls) else direction_words ls

abbrev pub lacks_direction : List Line → Bool
lacks_direction earlier = is_one_of (headers_of earlier) (codes "OBJSENSE") && nat_eq (length (direction_words earlier)) 0

abbrev pub header_kind : List Line → Line → Option MpsKind
header_kind earlier l = first_kind ((not (may_follow (headers_of earlier) l.section) || lacks_direction earlier, Section) ∷ (bytes_eq l.section (codes "OBJSENSE") && nat_lt 1 (length l.fields) && not (is_direction (field 1 l)), Fields) ∷ [])

abbrev pub direction_kind : List Line → Line → Option MpsKind
direction_kind earlier l = first_kind ((nat_lt 0 (length (direction_words earlier)), Section) ∷ (not (is_direction (field 0 l)), Fields) ∷ [])

-- ---- rows

abbrev pub row_kind : List Line → Line → Option MpsKind
row_kind earlier l = first_kind (
    (not (nat_eq (length l.fields) 2) || not (is_one_of (codes "N" ∷ codes "L" ∷ codes "G" ∷ codes "E" ∷ []) (field 0 l)), Fields)
    ∷ (is_long (field 1 l), LongName)
    ∷ (is_one_of (map (field 1) (data_of (codes "ROWS") earlier)) (field 1 l), Duplicate)
    ∷ (not (is_free l) && nat_le 1000 (length (kept_rows earlier)), TooMany)
    ∷ [])

-- ---- entries

abbrev pub is_row : List Line → List ℕ → Bool
is_row ls name = is_one_of (free_rows ls) name || is_kept ls name

-- an entry, given those before it in its section
abbrev pub entry_kind : List Line → (List ℕ → Bool) → (List ℕ → ℕ) → List Entry → Entry → Option MpsKind
entry_kind ls ignored most before e =
    if is_row ls e.row then (if ignored e.row then None else or_else (first_kind ((list_any (λ (b : Entry). bytes_eq b.owner e.owner && bytes_eq b.row e.row) before, Duplicate) ∷ [])) (number_kind (most e.row) e.text)) else Some UnknownRow

-- the first kind of a list of entries, each with those before it
abbrev pub entries_kind : (List Entry → Entry → Option MpsKind) → List Entry → List Entry → Option MpsKind
entries_kind kind before [] = None
entries_kind kind before (e ∷ es) = or_else (kind before e) (entries_kind kind (before ++ e ∷ []) es)

-- ---- columns

abbrev pub marker_kind : Line → Option MpsKind
marker_kind l = first_kind ((not (nat_eq (length l.fields) 3) || not (is_one_of (codes "'INTORG'" ∷ codes "'INTEND'" ∷ []) (field 2 l)), Fields) ∷ [])

-- how many terms the entries make
abbrev pub term_count : List Line → List Entry → ℕ
term_count ls es = count_by (λ (e : Entry). is_kept ls e.row && is_nonzero e.text) es

abbrev pub term_kind : List Line → List Entry → Entry → Option MpsKind
term_kind ls before e = or_else (entry_kind ls (is_dropped ls) (λ r. 10 ^ 9) before e) (first_kind ((nat_lt 100000 (term_count ls (before ++ e ∷ [])) && is_kept ls e.row, TooMany) ∷ []))

abbrev pub column_kind : List Line → Line → Option MpsKind
column_kind earlier l =
    if is_marker l then marker_kind l else
    or_else (first_kind (
    (not (nat_eq (length l.fields) 3 || nat_eq (length l.fields) 5), Fields)
    ∷ (begins_column earlier l && is_long (field 0 l), LongName)
    ∷ (begins_column earlier l && is_one_of (column_names earlier) (field 0 l), Duplicate)
    ∷ (begins_column earlier l && nat_le 1000 (length (column_starts earlier)), TooMany)
    ∷ []))
    (entries_kind (term_kind earlier) (entries_of (codes "COLUMNS") earlier) (column_entries l))

-- ---- right-hand sides and ranges

abbrev pub is_second : List (List ℕ) → List ℕ → Bool
is_second [] name = false
is_second (first ∷ more) name = not (bytes_eq first name)

abbrev pub set_kind : List ℕ → (List ℕ → Bool) → (List ℕ → ℕ) → List Line → Line → Option MpsKind
set_kind section ignored most earlier l =
    or_else (first_kind (
    (not (nat_lt 1 (length l.fields) && nat_lt (length l.fields) 6), Fields)
    ∷ (has_set l && is_second (sets_of section earlier) (field 0 l), SecondSet)
    ∷ []))
    (entries_kind (entry_kind earlier ignored most) (entries_of section earlier) (set_entries l))

abbrev pub rhs_kind : List Line → Line → Option MpsKind
rhs_kind earlier l = set_kind (codes "RHS") (is_dropped earlier) (λ r. if is_objective earlier r then 10 ^ 15 else 10 ^ 18) earlier l

abbrev pub range_kind : List Line → Line → Option MpsKind
range_kind earlier l = set_kind (codes "RANGES") (is_one_of (free_rows earlier)) (λ r. 10 ^ 18) earlier l

-- ---- bounds

-- a type of bound with as many fields as it takes
abbrev pub bound_fits : Line → Bool
bound_fits l =
    (takes_value (field 0 l) && (nat_eq (length l.fields) 3 || nat_eq (length l.fields) 4))
    || (takes_none (field 0 l) && (nat_eq (length l.fields) 2 || nat_eq (length l.fields) 3 || nat_eq (length l.fields) 4))

abbrev pub bound_kind : List Line → Line → Option MpsKind
bound_kind earlier l =
    or_else (first_kind (
    (not (bound_fits l), Fields)
    ∷ (bound_has_set l && is_second (sets_of (codes "BOUNDS") earlier) (field 1 l), SecondSet)
    ∷ (not (is_one_of (column_names earlier) (bound_column l)), UnknownColumn)
    ∷ []))
    (if takes_value (field 0 l) then number_kind (10 ^ 6) (bound_text l) else None)

-- ---- a line

abbrev pub data_kind : List Line → Line → Option MpsKind
data_kind earlier l =
    if bytes_eq l.section (codes "OBJSENSE") then direction_kind earlier l else
    if bytes_eq l.section (codes "ROWS") then row_kind earlier l else
    if bytes_eq l.section (codes "COLUMNS") then column_kind earlier l else
    if bytes_eq l.section (codes "RHS") then rhs_kind earlier l else
    if bytes_eq l.section (codes "RANGES") then range_kind earlier l else
    if bytes_eq l.section (codes "BOUNDS") then bound_kind earlier l else
    Some Section

abbrev pub line_kind : List Line → Line → Option MpsKind
line_kind earlier l = if l.header then header_kind earlier l else data_kind earlier l
