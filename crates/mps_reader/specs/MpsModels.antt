-- The model that a text has.
use Rattle.std.specs.Prelude.{ℕ, ◌+◌, ℤ, pos, neg_ℤ, int_lt, unsigned_abs, Bool, true, false, ◌&&◌, ◌||◌, not, nat_eq, nat_lt, if◌then◌else◌, List, [], ◌∷◌, ◌++◌, length, filter, filter_map, find, count_by, codes, Option, Some, None, option_map, option_and_then, is_some, is_none, unwrap_or, Ok, Err, Result, map, bytes_eq}
use Rattle.std.specs.Option.{option_map_or}
use Rattle.std.specs.List.{list_any, enumerate_from}
use Rattle.num_text.specs.Lines.{lines_of}
use Rattle.num_text.specs.NumberText.{number_of}
use Rattle.mps_reader.specs.MpsLines.{Line, Entry, mps_lines, field, data_of, is_one_of, free_rows, kept_rows, column_names, integer_names, entries_of, bound_column, bound_text, last_of}
use Rattle.mps_reader.specs.MpsRules.{line_kind, or_else, first_kind, is_maximum, direction_words}
use Rattle.int_model.specs.Models.{IntegerModel}
use Rattle.num_text.specs.declared.number.NumberError.{NumberError}
use Rattle.mps_reader.specs.declared.MpsKind.{MpsKind}
use Rattle.mps_reader.specs.declared.MpsKind.TheVariants.{NoEnd, Continuous, NegativeUpper, Unbounded}
use Rattle.int_model.specs.declared.model.Column.{Column}
use Rattle.int_model.specs.declared.model.Row.{Row}
use Rattle.int_model.specs.declared.model.RowSense.{RowSense}
use Rattle.int_model.specs.declared.model.RowSense.TheVariants.{L, G, E}
use Rattle.int_model.specs.declared.model.Direction.TheVariants.{Min, Max}

abbrev pub ok_or_zero : Result ℤ NumberError → ℤ
ok_or_zero (Ok z) = z
ok_or_zero (Err e) = pos 0

abbrev pub number_or_zero : List ℕ → ℤ
number_or_zero text = ok_or_zero (number_of text)

-- the number that the entries give for a row in a column or a section
abbrev pub given : List Entry → List ℕ → List ℕ → Option ℤ
given es owner row = option_map (λ (e : Entry). number_or_zero e.text) (find (λ (e : Entry). bytes_eq e.owner owner && bytes_eq e.row row) es)

-- the same, 0 where it isn't given
abbrev pub number_in : List Entry → List ℕ → List ℕ → ℤ
number_in es column row = unwrap_or (given es column row) (pos 0)

abbrev pub entry_of : List Line → List ℕ → List ℕ → ℤ
entry_of ls column row = number_in (entries_of (codes "COLUMNS") ls) column row

-- ---- bounds

-- a side of a column's bounds: a number or infinite
abbrev pub Side : Type 0
Side = Option ℤ

-- what a bound's line sets the low side to, and the high side
abbrev pub low_set : Line → Option Side
low_set l =
    if is_one_of (codes "LO" ∷ codes "FX" ∷ codes "LI" ∷ []) (field 0 l) then Some (Some (number_or_zero (bound_text l))) else
    if is_one_of (codes "FR" ∷ codes "MI" ∷ []) (field 0 l) then Some None else
    if bytes_eq (field 0 l) (codes "BV") then Some (Some (pos 0)) else None

abbrev pub high_set : Line → Option Side
high_set l =
    if is_one_of (codes "UP" ∷ codes "FX" ∷ codes "UI" ∷ []) (field 0 l) then Some (Some (number_or_zero (bound_text l))) else
    if is_one_of (codes "FR" ∷ codes "PL" ∷ []) (field 0 l) then Some None else
    if bytes_eq (field 0 l) (codes "BV") then Some (Some (pos 1)) else None

abbrev pub bound_lines : List Line → List ℕ → List Line
bound_lines ls column = filter (λ l. bytes_eq (bound_column l) column) (data_of (codes "BOUNDS") ls)

-- no line names the column, which began in an integer part
abbrev pub is_implied : List Line → List ℕ → Bool
is_implied ls column = is_one_of (integer_names ls) column && nat_eq (length (bound_lines ls column)) 0

-- the last setting of a side, else its default
abbrev pub low_of : List Line → List ℕ → Side
low_of ls column = unwrap_or (last_of (filter_map low_set (bound_lines ls column))) (Some (pos 0))

abbrev pub high_of : List Line → List ℕ → Side
high_of ls column = unwrap_or (last_of (filter_map high_set (bound_lines ls column))) (if is_implied ls column then Some (pos 1) else None)

-- ---- a column at the end of the text

abbrev pub sets_integer : Line → Bool
sets_integer l = is_one_of (codes "BV" ∷ codes "LI" ∷ codes "UI" ∷ []) (field 0 l)

abbrev pub is_integer : List Line → List ℕ → Bool
is_integer ls column = is_one_of (integer_names ls) column || list_any sets_integer (bound_lines ls column)

abbrev pub sets_high : Line → Bool
sets_high l = is_some (high_set l)

-- the line sets an upper bound below 0
abbrev pub is_negative_upper : Line → Bool
is_negative_upper l = is_one_of (codes "UP" ∷ codes "UI" ∷ []) (field 0 l) && int_lt (number_or_zero (bound_text l)) (pos 0)

-- no line sets the low side, and the last that sets the high side sets an upper bound below 0
abbrev pub has_negative_upper : List Line → List ℕ → Bool
has_negative_upper ls column = is_none (last_of (filter_map low_set (bound_lines ls column))) && option_map_or is_negative_upper (last_of (filter sets_high (bound_lines ls column))) false

abbrev pub is_infinite : Side → Bool
is_infinite None = true
is_infinite (Some z) = false

abbrev pub column_end_kind : List Line → List ℕ → Option MpsKind
column_end_kind ls column = first_kind (
    (not (is_integer ls column), Continuous)
    ∷ (has_negative_upper ls column, NegativeUpper)
    ∷ (is_infinite (low_of ls column) || is_infinite (high_of ls column), Unbounded)
    ∷ [])

abbrev pub end_kind : List Line → List (List ℕ) → Option MpsKind
end_kind ls [] = None
end_kind ls (column ∷ columns) = or_else (column_end_kind ls column) (end_kind ls columns)

-- ---- the model of good lines

abbrev pub sense_of : List ℕ → RowSense
sense_of word = if bytes_eq word (codes "L") then L else if bytes_eq word (codes "G") then G else E

abbrev pub first_name : List (List ℕ) → Option (List ℕ)
first_name [] = None
first_name (n ∷ ns) = Some n

-- the objective row's name
abbrev pub objective_of : List Line → Option (List ℕ)
objective_of ls = first_name (free_rows ls)

abbrev pub cost_of : List Line → List ℕ → ℤ
cost_of ls name = unwrap_or (option_map (entry_of ls name) (objective_of ls)) (pos 0)

abbrev pub column_of : List Line → List ℕ → Column
column_of ls name = record {
  name = name;
  cost = cost_of ls name;
  low = unwrap_or (low_of ls name) (pos 0);
  high = unwrap_or (high_of ls name) (pos 0);
}

abbrev pub is_not_zero : ℤ → Bool
is_not_zero z = nat_lt 0 (unsigned_abs z)

-- a row's numbers that aren't 0, with the numbers of their columns, which are counted from first
abbrev pub terms_from : ℕ → List Entry → List (List ℕ) → List ℕ → List (ℕ × ℤ)
terms_from first es columns row = filter (λ (t : ℕ × ℤ). is_not_zero t.1) (map (λ (c : ℕ × List ℕ). (c.0, number_in es c.1 row)) (enumerate_from first columns))

abbrev pub terms_of : List Line → List ℕ → List (ℕ × ℤ)
terms_of ls row = terms_from 0 (entries_of (codes "COLUMNS") ls) (column_names ls) row

abbrev pub row_of : List Line → Line → Row
row_of ls l = record {
  name = field 1 l;
  sense = sense_of (field 0 l);
  rhs = unwrap_or (given (entries_of (codes "RHS") ls) [] (field 1 l)) (pos 0);
  range = given (entries_of (codes "RANGES") ls) [] (field 1 l);
  terms = terms_of ls (field 1 l);
}

abbrev pub model_of_lines : List Line → IntegerModel
model_of_lines ls = record {
  columns = map (column_of ls) (column_names ls);
  rows = map (row_of ls) (kept_rows ls);
  constant = neg_ℤ (unwrap_or (option_and_then (given (entries_of (codes "RHS") ls) []) (objective_of ls)) (pos 0));
  direction = if list_any is_maximum (direction_words ls) then Max else Min;
  implied = count_by (is_implied ls) (column_names ls);
}

-- ---- the whole text

-- a line and the kind of its refusal
abbrev pub Refusal : Type 0
Refusal = ℕ × MpsKind

abbrev pub is_end : Line → Bool
is_end l = l.header && bytes_eq l.section (codes "ENDATA")

-- the end's line, behind these lines, where it is no refusal itself; given the first kind at the end
abbrev pub at_its_end : List Line → Line → Option MpsKind → Result IntegerModel Refusal
at_its_end earlier l (Some kind) = Err (l.number, kind)
at_its_end earlier l None = Ok (model_of_lines earlier)

-- a line behind these lines, given its first kind and what the lines behind it make
abbrev pub by_kind : List Line → Line → Option MpsKind → Result IntegerModel Refusal → Result IntegerModel Refusal
by_kind earlier l (Some kind) more = Err (l.number, kind)
by_kind earlier l None more = if is_end l then at_its_end earlier l (end_kind earlier (column_names earlier)) else more

-- the model of the lines up to the end's, or the first line that is refused; last is one more than the number of lines
abbrev pub model_from : ℕ → List Line → List Line → Result IntegerModel Refusal
model_from last earlier [] = Err (last, NoEnd)
model_from last earlier (l ∷ ls) = by_kind earlier l (line_kind earlier l) (model_from last (earlier ++ l ∷ []) ls)

abbrev pub model_of : List ℕ → Result IntegerModel Refusal
model_of bytes = model_from (length (lines_of bytes) + 1) [] (mps_lines bytes)
