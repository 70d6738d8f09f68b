use Rattle.std.proofs.Common.{◌≡◌, map, drop, length}
use Rattle.std.specs.List.{All}
use Rattle.int_model.specs.Limits.{IsBound}
use Rattle.int_model.specs.Boxes.{box_of, hull_of}
use Rattle.int_model.specs.Programs.{Program}
use Rattle.scenario_changes.specs.Problems.{problem, root_box}
use Rattle.scenario_changes.proofs.problem.Problem.root.Given as goal

abbrev pub invariant-loop-s : goal.invariant-loop-s
invariant-loop-s l = record {
  covers : hull_of (box_of l.lows.items l.highs.items) (map (λ (p : Program). p.bounds) (drop l.s (problem l.self).scenarios)) ≡ root_box (problem l.self).scenarios;
  low_count : length l.lows.items ≡ length l.self.model.columns;
  high_count : length l.highs.items ≡ length l.self.model.columns;
  small_lows : All IsBound l.lows.items;
  small_highs : All IsBound l.highs.items;
}
