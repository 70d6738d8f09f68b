use Rattle.std.proofs.Common.{◌<◌, length}
use Rattle.std.specs.Prelude.{IfSome}
use Rattle.scenario_changes.specs.Problems.{problem}
use Rattle.node_work.proofs.standings.Standings.first.Given as goal

abbrev pub invariant-loop-s : goal.invariant-loop-s
invariant-loop-s l = IfSome l.first (λ s. s < length (problem l.problem).scenarios)
