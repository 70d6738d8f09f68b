use Rattle.std.proofs.Common.{◌≡◌, drop}
use Rattle.int_model.specs.Boxes.{box_of, is_single}
use Rattle.int_model.proofs.point_box.are_single.Given as goal

abbrev pub invariant-loop-j : goal.invariant-loop-j
invariant-loop-j l = is_single (box_of l.lows l.highs) ≡ is_single (box_of (drop l.j l.lows) (drop l.j l.highs))
