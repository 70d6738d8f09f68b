use Rattle.std.proofs.Common.{◌≡◌, ◌++◌, drop}
use Rattle.scenario_changes.specs.Problems.{lesser}
use Rattle.scenario_changes.proofs.root.lesser.Given as goal

abbrev pub invariant-loop-k : goal.invariant-loop-k
invariant-loop-k l = l.numbers.items ++ lesser (drop l.k l.items) (drop l.k l.others) ≡ lesser l.items l.others
