use Rattle.std.proofs.Common.{◌≡◌, ◌++◌, map, drop}
use Rattle.int_model.specs.declared.model.Row.{Row}
use Rattle.int_model.specs.declared.model.Rhs.TheVariants.{Value}
use Rattle.scenario_changes.specs.Changes.{changed}
use Rattle.scenario_changes.specs.Problems.{ends_of_rows}
use Rattle.scenario_changes.proofs.numbers.row_ends_of.Given as goal

abbrev pub invariant-loop-i : goal.invariant-loop-i
invariant-loop-i l = l.ends.items ++ ends_of_rows (drop l.i l.model.rows) (changed (map (λ (i : Row). Value i.rhs) (drop l.i l.model.rows)) (drop l.i l.changes)) ≡ ends_of_rows l.model.rows (changed (map (λ (i : Row). Value i.rhs) l.model.rows) l.changes)
