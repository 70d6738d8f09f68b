use Rattle.scenario_changes.specs.Problems.{problem}
use Rattle.tree_check.specs.Walks.{HasRoom, WalkSoFar}
use Rattle.tree_check.proofs.walk.walk.Given as goal

abbrev pub invariant-loop-n : goal.invariant-loop-n
invariant-loop-n l = record {
  so_far : WalkSoFar (problem l.problem) l.answers l.nodes l.n l.table.items l.first;
  room : HasRoom (problem l.problem) l.scratch;
}
