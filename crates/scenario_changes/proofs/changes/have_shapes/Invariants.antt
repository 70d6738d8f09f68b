use Rattle.std.proofs.Common.{◌≡◌, ◌↔◌, map, drop}
use Rattle.scenario_changes.specs.Changes.{shape_of}
use Rattle.scenario_changes.proofs.changes.have_shapes.Given as goal

abbrev pub invariant-loop-i : goal.invariant-loop-i
invariant-loop-i l = (l.shapes ≡ map shape_of l.model.rows) ↔ (drop l.i l.shapes ≡ map shape_of (drop l.i l.model.rows))
