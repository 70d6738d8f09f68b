use Rattle.std.proofs.Common.{rules, refl, ◌≡◌, ◌<◌, length, map}
use Rattle.scenario_changes.specs.Changes.{shape_of}
use Rattle.scenario_changes.proofs.ChangeLemmas.{shapes-step}
use Rattle.scenario_changes.proofs.changes.have_shapes.Goals as goal

pub loop-i-preserved : goal.loop-i-preserved
loop-i-preserved c =
    let row : c.loop-i.i < length c.args.model.now.rows = search rules in
    let shape : c.loop-i.i < length c.args.shapes.now = search rules in
    shapes-step (c.args.shapes.now ≡ map shape_of c.args.model.now.rows) c.args.shapes.now c.args.model.now.rows c.loop-i.i _ c.row.result.now shape row c.row.ensures.value (c.if-not-has_shape.ensures.0 refl) c.loop-i.invariant
