use Rattle.std.proofs.Common.{◌≡◌, ◌++◌, drop}
use Rattle.scenario_changes.specs.Problems.{greater}
use Rattle.scenario_changes.proofs.root.greater.Given as goal

abbrev pub invariant-loop-k : goal.invariant-loop-k
invariant-loop-k l = l.numbers.items ++ greater (drop l.k l.items) (drop l.k l.others) ≡ greater l.items l.others
