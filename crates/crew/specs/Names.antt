-- The name of no run.
use Rattle.std.specs.Prelude.{[]}
use Rattle.atomic_table.specs.Seated.{TableId}
use Rattle.scenario_changes.specs.Problems.{Problem}

abbrev pub no_table : TableId
no_table = record { words = 0; slots = 0; views_name = 0; atom = 0; block = 0; offset = 0; slot_names = [] }

abbrev pub no_problem : Problem
no_problem = record { columns = 0; rows = 0; scenarios = [] }
