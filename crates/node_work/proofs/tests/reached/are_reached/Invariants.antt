use Rattle.scenario_changes.specs.Problems.{problem}
use Rattle.node_work.proofs.ReachedLaws.{ReachedSoFar}
use Rattle.node_work.proofs.tests.reached.are_reached.Given as goal

abbrev pub invariant-loop-i : goal.invariant-loop-i
invariant-loop-i l = ReachedSoFar (problem l.problem) l.found l.cuts l.i
