use Rattle.scenario_changes.specs.Problems.{problem}
use Rattle.node_work.specs.Probes.{AreFound}
use Rattle.node_work.proofs.dives.dive_open.Given as goal

abbrev pub invariant-loop-s : goal.invariant-loop-s
invariant-loop-s l = AreFound (problem l.problem) l.found.items
