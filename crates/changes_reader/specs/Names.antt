-- The columns and rows that names mean.
use Rattle.std.specs.Prelude.{ℕ, Bool, false, nat_eq, List, map, position, bytes_eq, Option, Some, None}
use Rattle.int_model.specs.Models.{IntegerModel}
use Rattle.int_model.specs.declared.model.Column.{Column}
use Rattle.int_model.specs.declared.model.Row.{Row}

abbrev pub column_names : IntegerModel → List (List ℕ)
column_names m = map (λ (j : Column). j.name) m.columns

abbrev pub row_names : IntegerModel → List (List ℕ)
row_names m = map (λ (i : Row). i.name) m.rows

-- the number that a name means: the first of that name
abbrev pub number_named : List (List ℕ) → List ℕ → Option ℕ
number_named names name = position (λ n. bytes_eq n name) names

-- whether a name means this number
abbrev pub is_number : Option ℕ → ℕ → Bool
is_number None j = false
is_number (Some i) j = nat_eq i j

abbrev pub means : List (List ℕ) → List ℕ → ℕ → Bool
means names name j = is_number (number_named names name) j
