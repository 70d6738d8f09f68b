-- Worked names and texts, by computing.
use Rattle.std.specs.Prelude.{pos, false, None, [], ◌∷◌, ◌++◌, codes, refl}
use Rattle.std.specs.Fmt.{digits}
use Rattle.int_model.specs.Models.{IntegerModel}
use Rattle.int_model.specs.declared.model.Direction.TheVariants.{Min}
use Rattle.int_model.specs.declared.model.RowSense.TheVariants.{G}
use Rattle.made_problems.specs.Laws.{HasNames}
use Rattle.made_problems.specs.Made.{HasChanges}

-- two columns and a row, numbered from 0
abbrev two_columns : IntegerModel
two_columns = record {
  columns = record { name = codes "c0"; cost = pos 3; low = pos 0; high = pos 9 } ∷ record { name = codes "c1"; cost = pos 5; low = pos 0; high = pos 9 } ∷ [];
  rows = record { name = codes "r0"; sense = G; rhs = pos 4; range = None; terms = [] } ∷ [];
  constant = pos 0;
  direction = Min;
  implied = 0;
}

numbered : HasNames 2 1 two_columns
unfolding digits
numbered = record { columns_named = refl; rows_named = refl }

-- a text without scenarios
without_scenarios : HasChanges two_columns (codes "scenarios 0" ++ 10 ∷ [])
without_scenarios = record { changes = record { columns = 2; rows = record { sense = G; ranged = false } ∷ []; scenarios = []; selected = 0 }; is = refl }
