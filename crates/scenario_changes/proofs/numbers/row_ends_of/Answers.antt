use Rattle.std.proofs.Common.{rules, ◌<◌, length, None}
use Rattle.scenario_changes.proofs.NumberLemmas.{one-more, peel-ends, stands-at}
use Rattle.scenario_changes.proofs.numbers.row_ends_of.Goals as goal

pub ends_of-requires-clause-removable : goal.ends_of-requires-clause-removable
ends_of-requires-clause-removable c =
    let change : c.loop-i.i < length c.args.changes.now = search rules in
    (stands-at c.args.model.now.rows c.args.changes.now c.loop-i.i c.row-row.result.now None c.unwrap_or-rhs.result c.requires.sides change c.row-row.ensures.value c.row-row.ensures.limits.rhs (search rules)).removable

pub ends_of-requires-clause-rhs_limit : goal.ends_of-requires-clause-rhs_limit
ends_of-requires-clause-rhs_limit c =
    let change : c.loop-i.i < length c.args.changes.now = search rules in
    (stands-at c.args.model.now.rows c.args.changes.now c.loop-i.i c.row-row.result.now None c.unwrap_or-rhs.result c.requires.sides change c.row-row.ensures.value c.row-row.ensures.limits.rhs (search rules)).small

pub loop-i-preserved : goal.loop-i-preserved
loop-i-preserved c =
    let row : c.loop-i.i < length c.args.model.now.rows = search rules in
    let change : c.loop-i.i < length c.args.changes.now = search rules in
    one-more c.loop-i.ends.items c.push.new.self.items _ _ _ _ _ c.loop-i.invariant (peel-ends c.args.model.now.rows c.args.changes.now c.loop-i.i c.row-row.result.now None row change c.row-row.ensures.value) (search rules) c.in_ok-push.ensures.items
