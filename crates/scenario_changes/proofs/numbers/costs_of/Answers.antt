use Rattle.std.proofs.Common.{rules, ap, map, ◌<◌, ◌≡◌, ◌∙◌, length, None, unwrap_or, get_or, FitsSigned, w64}
use Rattle.std.proofs.lemmas.Int.{to_z-of_z}
use Rattle.int_model.specs.Models.{minimized}
use Rattle.int_model.specs.declared.model.Column.{Column}
use Rattle.scenario_changes.proofs.NumberLemmas.{one-more, peel-changed}
use Rattle.scenario_changes.proofs.numbers.costs_of.Goals as goal

made : (c : goal.In_ok-push) → c.minimized.result ≡ minimized c.args.model.now.direction (unwrap_or (get_or c.args.changes.now c.loop-j.j None) c.column.result.now.cost)
made c =
    let cost_fits : FitsSigned w64 c.unwrap_or-cost.result = search rules in
    let value = simp to_z-of_z at c.minimized.ensures in
    value ∙ ap (λ d. minimized d c.unwrap_or-cost.result) c.direction.ensures ∙ ap (minimized c.args.model.now.direction) (search rules)

pub loop-j-preserved : goal.loop-j-preserved
loop-j-preserved c =
    let column : c.loop-j.j < length c.args.model.now.columns = search rules in
    let change : c.loop-j.j < length c.args.changes.now = search rules in
    let fits : FitsSigned w64 c.minimized.result = search rules in
    let first = peel-changed (λ (j : Column). j.cost) c.args.model.now.columns c.args.changes.now c.loop-j.j c.column.result.now None column change c.column.ensures.value in
    one-more c.loop-j.costs.items c.push.new.self.items _ _ _ _ _ c.loop-j.invariant (ap (map (minimized c.args.model.now.direction)) first) (to_z-of_z w64 c.minimized.result fits ∙ made c) c.in_ok-push.ensures.items
