use Rattle.std.proofs.Common.{◌≡◌, ◌++◌, map, drop}
use Rattle.int_model.specs.Models.{minimized}
use Rattle.int_model.specs.declared.model.Column.{Column}
use Rattle.scenario_changes.specs.Changes.{changed}
use Rattle.scenario_changes.proofs.numbers.costs_of.Given as goal

abbrev pub invariant-loop-j : goal.invariant-loop-j
invariant-loop-j l = l.costs.items ++ map (minimized l.model.direction) (changed (map (λ (j : Column). j.cost) (drop l.j l.model.columns)) (drop l.j l.changes)) ≡ map (minimized l.model.direction) (changed (map (λ (j : Column). j.cost) l.model.columns) l.changes)
