use Rattle.std.proofs.Common.{◌∙◌, ◌++◌, ap}
use Rattle.model_gen.specs.Draws as draws
use Rattle.model_gen.specs.Texts as texts
use Rattle.model_gen.proofs.TextLemmas.{each_begun, each_more, each_ended}
use Rattle.model_gen.proofs.model.push_demands.Goals as goal

pub loop-i-init : goal.loop-i-init
loop-i-init c = each_begun (λ i. texts.demand_line i (draws.demand c.args.words.now c.args.columns c.args.rows i)) _

pub loop-i-preserved : goal.loop-i-preserved
loop-i-preserved c = each_more (λ i. texts.demand_line i (draws.demand c.args.words.now c.args.columns c.args.rows i)) c.loop-i.i _ _ _ c.loop-i.invariant (c.in_ok-push_demand.ensures ∙ ap (λ d. c.loop-i.out.items ++ texts.demand_line c.loop-i.i d) c.demand.ensures)

pub returns : goal.returns
returns c = each_ended (λ i. texts.demand_line i (draws.demand c.args.words.now c.args.columns c.args.rows i)) c.loop-i.i _ _ _ c.loop-i.auto.i-end c.loop-i-test.false c.loop-i.invariant
