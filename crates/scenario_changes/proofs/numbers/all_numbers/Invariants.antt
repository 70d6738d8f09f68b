use Rattle.std.proofs.Common.{◌≡◌, map, take}
use Rattle.scenario_changes.specs.Problems.{numbers_of}
use Rattle.scenario_changes.proofs.numbers.all_numbers.Given as goal

abbrev pub invariant-loop-change : goal.invariant-loop-change
invariant-loop-change l = l.numbers.items ≡ map (numbers_of l.model) (take l.change-index l.changes)
