use Rattle.scenario_changes.specs.Problems.{problem}
use Rattle.tree_check.specs.Walks.{IsBegun}
use Rattle.tree_check.proofs.walk.table_of.Given as goal

abbrev pub invariant-loop : goal.invariant-loop
invariant-loop l = IsBegun (problem l.problem) l.counter l.table.items
