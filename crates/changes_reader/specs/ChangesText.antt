-- The changes that a text has.
use Rattle.std.specs.Prelude.{ℕ, pos, unsigned_abs, Bool, true, false, ◌&&◌, nat_eq, List, [], ◌∷◌, ◌++◌, length, map, filter, slice_index_or, codes, Option, Some, None, option_and_then, option_map, unwrap_or, Result, Ok, Err, bytes_eq}
use Rattle.std.specs.List.{enumerate_from, range_with_len}
use Rattle.num_text.specs.Lines.{lines_of, fields_of}
use Rattle.num_text.specs.Words.{is_read, last_of}
use Rattle.int_model.specs.Models.{IntegerModel}
use Rattle.scenario_changes.specs.Changes.{Change, ChangeSet, shape_of}
use Rattle.changes_reader.specs.Names.{column_names, row_names, means}
use Rattle.changes_reader.specs.Values.{whole, said_or, number_set, side_set}
use Rattle.changes_reader.specs.Kinds.{line_kind}
use Rattle.changes_reader.specs.declared.ChangesKind.{ChangesKind}
use Rattle.changes_reader.specs.declared.ChangesKind.TheVariants.{Magnitude}

-- a line that is read: its number and its fields
pub record Line : Type 0 where
  pub number : ℕ
  pub fields : List (List ℕ)

-- those of some lines, of which the first has this number
abbrev pub read_from : ℕ → List (List ℕ) → List Line
read_from n lines = map (λ (l : ℕ × List ℕ). record { number = l.0; fields = fields_of l.1 }) (filter (λ (l : ℕ × List ℕ). is_read l.1) (enumerate_from n lines))

abbrev pub changes_lines : List ℕ → List Line
changes_lines bytes = read_from 1 (lines_of bytes)

abbrev pub field : ℕ → Line → List ℕ
field k l = slice_index_or l.fields k []

abbrev pub has_word : List ℕ → Line → Bool
has_word word l = bytes_eq (field 0 l) word

-- the number of a text that is a whole number from 0 on
abbrev pub natural_of : List ℕ → ℕ
natural_of text = unsigned_abs (said_or (pos 0) (whole Magnitude text))

-- how many scenarios the lines have, and which one is selected after them
abbrev pub scenario_count : List Line → ℕ
scenario_count [] = 0
scenario_count (l ∷ ls) = natural_of (field 1 l)

abbrev pub selected_after : List Line → ℕ
selected_after ls = unwrap_or (option_map (λ l. natural_of (field 1 l)) (last_of (filter (has_word (codes "scenario")) ls))) 0

-- the lines, each beside the scenario that is selected there
abbrev pub under_selected : List Line → List Line → List (ℕ × Line)
under_selected earlier [] = []
under_selected earlier (l ∷ ls) = (selected_after earlier, l) ∷ under_selected (earlier ++ l ∷ []) ls

-- the last line that has a word in a scenario and passes a test
abbrev pub last_line : List Line → ℕ → List ℕ → (Line → Bool) → Option Line
last_line ls k word test = option_map (λ (l : ℕ × Line). l.1) (last_of (filter (λ (l : ℕ × Line). nat_eq l.0 k && has_word word l.1 && test l.1) (under_selected [] ls)))

-- the text of the last setting of an attribute in scenario k, for number j of these names
abbrev pub last_setting : List Line → ℕ → List ℕ → List (List ℕ) → ℕ → Option (List ℕ)
last_setting ls k attribute names j = option_map (field 2) (last_line ls k attribute (λ l. means names (field 1 l) j))

-- what settings of an attribute say: None where there is none, or where the last one is undefined
abbrev pub values_set : {X : Type 0} → (List ℕ → Option X) → List Line → ℕ → List ℕ → List (List ℕ) → List (Option X)
values_set value ls k attribute names = map (λ j. option_and_then value (last_setting ls k attribute names j)) (range_with_len 0 (length names))

abbrev pub change_of : IntegerModel → List Line → ℕ → Change
change_of m ls k = record {
  name = option_map (field 1) (last_line ls k (codes "name") (λ l. true));
  costs = values_set number_set ls k (codes "obj") (column_names m);
  lows = values_set number_set ls k (codes "lb") (column_names m);
  highs = values_set number_set ls k (codes "ub") (column_names m);
  rhs = values_set side_set ls k (codes "rhs") (row_names m);
}

-- the changes that good lines have
abbrev pub changes_of_lines : IntegerModel → List Line → ChangeSet
changes_of_lines m ls = record {
  columns = length m.columns;
  rows = map shape_of m.rows;
  scenarios = map (change_of m ls) (range_with_len 0 (scenario_count ls));
  selected = selected_after ls;
}

abbrev pub is_empty : List Line → Bool
is_empty [] = true
is_empty (l ∷ ls) = false

abbrev pub unless_refused : Option ChangesKind → ℕ → Result ChangeSet (ℕ × ChangesKind) → Result ChangeSet (ℕ × ChangesKind)
unless_refused (Some kind) number more = Err (number, kind)
unless_refused None number more = more

-- the changes of all lines, or the number and the kind of the first line that is refused behind those before it
abbrev pub changes_from : IntegerModel → List Line → List Line → Result ChangeSet (ℕ × ChangesKind)
changes_from m earlier [] = Ok (changes_of_lines m earlier)
changes_from m earlier (l ∷ ls) = unless_refused (line_kind m (is_empty earlier) (scenario_count earlier) l.fields) l.number (changes_from m (earlier ++ l ∷ []) ls)

-- the changes that a text makes of a model
abbrev pub changes_of : IntegerModel → List ℕ → Result ChangeSet (ℕ × ChangesKind)
changes_of m bytes = changes_from m [] (changes_lines bytes)
