-- Worked changes texts, by computing.
use Rattle.std.specs.Prelude.{◌≡◌, ℕ, pos, negsuc, false, List, [], ◌∷◌, ◌++◌, Ok, Err, None, Some, refl, codes, flat_map, slice_set, drop}
use Rattle.int_model.specs.Models.{IntegerModel}
use Rattle.int_model.specs.declared.model.RowSense.TheVariants.{L}
use Rattle.int_model.specs.declared.model.Rhs.TheVariants.{Value, Inf}
use Rattle.int_model.specs.declared.model.Direction.TheVariants.{Min}
use Rattle.scenario_changes.specs.Changes.{Change, ChangeSet, no_change}
use Rattle.changes_reader.specs.ChangesText.{changes_of}
use Rattle.changes_reader.specs.declared.ChangesKind.TheVariants.{Header, Word, Fields, TooMany, NoScenario, UnknownColumn, UnknownRow, Number, Fraction, Magnitude, BadRemoval}

-- the text of lines
abbrev text_of : List (List ℕ) → List ℕ
text_of ls = flat_map (λ l. l ++ 10 ∷ []) ls

abbrev m1 : IntegerModel
m1 = record {
  columns = record { name = codes "x"; cost = negsuc 2; low = pos 0; high = pos 3 } ∷ record { name = codes "y"; cost = negsuc 1; low = pos 0; high = pos 3 } ∷ [];
  rows = record { name = codes "cap"; sense = L; rhs = pos 4; range = None; terms = (0, pos 2) ∷ (1, pos 1) ∷ [] } ∷ [];
  constant = pos 0;
  direction = Min;
  implied = 0;
}

-- the changes of scenarios of m1, one of which is selected
abbrev changed : ℕ → List Change → ChangeSet
changed selected scenarios = record { columns = 2; rows = record { sense = L; ranged = false } ∷ []; scenarios = scenarios; selected = selected }

abbrev none : Change
none = no_change 2 1

abbrev s4_lines : List (List ℕ)
s4_lines = codes "scenarios 4" ∷ codes "scenario 1" ∷ codes "rhs cap 2" ∷ codes "scenario 2" ∷ codes "obj x -5" ∷ codes "scenario 3" ∷ codes "lb x 3" ∷ []

s4 : changes_of m1 (text_of s4_lines) ≡ Ok (changed 3 (none ∷ record none { rhs = Some (Value (pos 2)) ∷ [] } ∷ record none { costs = Some (negsuc 4) ∷ None ∷ [] } ∷ record none { lows = Some (pos 3) ∷ None ∷ [] } ∷ []))
s4 = refl

no_scenarios : changes_of m1 (text_of (codes "* a comment" ∷ [] ∷ codes " " ∷ [])) ≡ Ok (changed 0 [])
no_scenarios = refl

-- the last setting counts, in each scenario by itself, also where the selection goes back
back : changes_of m1 (text_of (codes "scenarios 2" ∷ codes "ub x 1" ∷ codes "scenario 1" ∷ codes "ub x 2" ∷ codes "scenario 0" ∷ codes "ub x 3" ∷ codes "name a" ∷ codes "name b" ∷ [])) ≡ Ok (changed 0 (record none { name = Some (codes "b"); highs = Some (pos 3) ∷ None ∷ [] } ∷ record none { highs = Some (pos 2) ∷ None ∷ [] } ∷ []))
back = refl

-- a setting that a later line makes undefined
undefined : changes_of m1 (text_of (codes "scenarios 1" ∷ codes "ub x 0" ∷ codes "ub x undefined" ∷ codes "rhs cap inf" ∷ codes "rhs cap undefined" ∷ [])) ≡ Ok (changed 0 (none ∷ []))
undefined = refl

removed : changes_of m1 (text_of (codes "scenarios 1" ∷ codes "rhs cap inf" ∷ [])) ≡ Ok (changed 0 (record none { rhs = Some Inf ∷ [] } ∷ []))
removed = refl

-- ---- refusals

header : changes_of m1 (text_of (drop 1 s4_lines)) ≡ Err (1, Header)
header = refl

-- by the first field alone, before the word and the number of fields
first_header : changes_of m1 (codes "price") ≡ Err (1, Header)
first_header = refl

second_header : changes_of m1 (text_of (codes "scenarios 1" ∷ codes "scenarios" ∷ [])) ≡ Err (2, Header)
second_header = refl

-- lines that aren't read are counted
counted : changes_of m1 (text_of (codes "* scenarios 4" ∷ [] ∷ codes "scenario 1" ∷ [])) ≡ Err (3, Header)
counted = refl

word : changes_of m1 (text_of (slice_set s4_lines 4 (codes "price x 1"))) ≡ Err (5, Word)
word = refl

fields : changes_of m1 (text_of (slice_set s4_lines 4 (codes "obj x"))) ≡ Err (5, Fields)
fields = refl

too_many : changes_of m1 (codes "scenarios 65") ≡ Err (1, TooMany)
too_many = refl

negative_count : changes_of m1 (codes "scenarios -1") ≡ Err (1, Magnitude)
negative_count = refl

no_scenario : changes_of m1 (text_of (slice_set s4_lines 3 (codes "scenario 4"))) ≡ Err (4, NoScenario)
no_scenario = refl

negative_scenario : changes_of m1 (text_of (slice_set s4_lines 3 (codes "scenario -1"))) ≡ Err (4, NoScenario)
negative_scenario = refl

wide_scenario : changes_of m1 (text_of (slice_set s4_lines 3 (codes "scenario 1e30"))) ≡ Err (4, NoScenario)
wide_scenario = refl

-- where there are no scenarios, before the name of the column and before the number
none_to_set : changes_of m1 (text_of (codes "scenarios 0" ∷ codes "obj z one" ∷ [])) ≡ Err (2, NoScenario)
none_to_set = refl

unknown_column : changes_of m1 (text_of (codes "scenarios 1" ∷ codes "obj z one" ∷ [])) ≡ Err (2, UnknownColumn)
unknown_column = refl

unknown_row : changes_of m1 (text_of (slice_set s4_lines 2 (codes "rhs cost 1"))) ≡ Err (3, UnknownRow)
unknown_row = refl

number : changes_of m1 (text_of (codes "scenarios 1" ∷ codes "obj x inf" ∷ [])) ≡ Err (2, Number)
number = refl

fraction : changes_of m1 (text_of (codes "scenarios 1" ∷ codes "obj x 0.5" ∷ [])) ≡ Err (2, Fraction)
fraction = refl

-- costs have another limit than bounds
cost_limit : changes_of m1 (text_of (codes "scenarios 1" ∷ codes "obj x 1000001" ∷ codes "ub y 1000001" ∷ [])) ≡ Err (3, Magnitude)
cost_limit = refl

bad_removal : changes_of m1 (text_of (slice_set s4_lines 2 (codes "rhs cap -inf"))) ≡ Err (3, BadRemoval)
bad_removal = refl

-- the first line that is refused, not the first kind
first_line : changes_of m1 (text_of (codes "scenarios 1" ∷ codes "ub x 1000001" ∷ codes "price" ∷ [])) ≡ Err (2, Magnitude)
first_line = refl

-- two columns of one name: the first is meant
twins : IntegerModel
twins = record m1 { columns = record { name = codes "x"; cost = pos 1; low = pos 0; high = pos 3 } ∷ record { name = codes "x"; cost = pos 2; low = pos 0; high = pos 3 } ∷ [] }

first_twin : changes_of twins (text_of (codes "scenarios 1" ∷ codes "obj x 7" ∷ [])) ≡ Ok (changed 0 (record none { costs = Some (pos 7) ∷ None ∷ [] } ∷ []))
unfolding twins
first_twin = refl
