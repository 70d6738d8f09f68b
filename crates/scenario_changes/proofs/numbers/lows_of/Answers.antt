use Rattle.std.proofs.Common.{rules, ◌<◌, length, None}
use Rattle.int_model.specs.declared.model.Column.{Column}
use Rattle.scenario_changes.proofs.NumberLemmas.{one-more, peel-changed}
use Rattle.scenario_changes.proofs.numbers.lows_of.Goals as goal

pub loop-j-preserved : goal.loop-j-preserved
loop-j-preserved c =
    let column : c.loop-j.j < length c.args.model.now.columns = search rules in
    let change : c.loop-j.j < length c.args.changes.now = search rules in
    let first = peel-changed (λ (j : Column). j.low) c.args.model.now.columns c.args.changes.now c.loop-j.j c.column.result.now None column change c.column.ensures.value in
    one-more c.loop-j.lows.items c.push.new.self.items _ _ _ _ _ c.loop-j.invariant first (search rules) c.in_ok-push.ensures.items
