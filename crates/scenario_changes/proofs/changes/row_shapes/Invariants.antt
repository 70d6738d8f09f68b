use Rattle.std.proofs.Common.{◌≡◌, map, take}
use Rattle.scenario_changes.specs.Changes.{shape_of}
use Rattle.scenario_changes.proofs.changes.row_shapes.Given as goal

abbrev pub invariant-loop-i : goal.invariant-loop-i
invariant-loop-i l = l.shapes.items ≡ map shape_of (take l.i l.model.rows)
