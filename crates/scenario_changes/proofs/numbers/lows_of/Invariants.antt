use Rattle.std.proofs.Common.{◌≡◌, ◌++◌, map, drop}
use Rattle.int_model.specs.declared.model.Column.{Column}
use Rattle.scenario_changes.specs.Changes.{changed}
use Rattle.scenario_changes.proofs.numbers.lows_of.Given as goal

abbrev pub invariant-loop-j : goal.invariant-loop-j
invariant-loop-j l = l.lows.items ++ changed (map (λ (j : Column). j.low) (drop l.j l.model.columns)) (drop l.j l.changes) ≡ changed (map (λ (j : Column). j.low) l.model.columns) l.changes
