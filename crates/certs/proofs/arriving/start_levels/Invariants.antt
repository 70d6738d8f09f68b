use Rattle.std.proofs.Common.{◌≡◌, ◌≤◌, length, map, take, vec_capacity}
use Rattle.int_model.specs.Programs.{Program}
use Rattle.scenario_changes.specs.Problems.{problem, root_box}
use Rattle.certs.specs.Verdicts.{start_level}
use Rattle.certs.proofs.arriving.start_levels.Given as goal

abbrev pub invariant-loop-s : goal.invariant-loop-s
invariant-loop-s l = record {
  items : l.levels.items ≡ map (λ (s : Program). start_level (root_box (problem l.problem).scenarios) s) (take l.s (problem l.problem).scenarios);
  long : length l.levels.items ≡ l.s;
  room : l.count ≤ vec_capacity l.levels;
}
