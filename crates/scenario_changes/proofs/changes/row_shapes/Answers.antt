use Rattle.std.proofs.Common.{rules, ◌<◌, length}
use Rattle.scenario_changes.proofs.ChangeLemmas.{shapes-more}
use Rattle.scenario_changes.proofs.changes.row_shapes.Goals as goal

pub loop-i-preserved : goal.loop-i-preserved
loop-i-preserved c =
    let inside : c.loop-i.i < length c.args.model.now.rows = search rules in
    shapes-more c.args.model.now.rows c.loop-i.i c.row.result.now c.row_shape.result c.loop-i.shapes.items _ inside c.row.ensures.value c.row_shape.ensures c.loop-i.invariant c.in_ok-push.ensures.items
