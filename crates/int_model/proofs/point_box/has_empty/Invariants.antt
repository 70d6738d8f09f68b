use Rattle.std.proofs.Common.{◌≡◌, ◌||◌, drop}
use Rattle.int_model.specs.Boxes.{box_of, is_empty}
use Rattle.int_model.proofs.point_box.has_empty.Given as goal

abbrev pub invariant-loop-j : goal.invariant-loop-j
invariant-loop-j l = is_empty (box_of l.lows l.highs) ≡ (l.is_empty || is_empty (box_of (drop l.j l.lows) (drop l.j l.highs)))
