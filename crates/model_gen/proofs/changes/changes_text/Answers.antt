use Rattle.std.proofs.Common.{◌∙◌, ◌++◌, ap}
use Rattle.model_gen.specs.Texts as texts
use Rattle.model_gen.proofs.TextLemmas.{each_begun, each_more, each_ended}
use Rattle.model_gen.proofs.changes.changes_text.Goals as goal

pub loop-s-init : goal.loop-s-init
loop-s-init c = c.in_ok-push_count.ensures ∙ ap (λ l. l ++ texts.scenarios_line c.args.scenarios) c.new-out.ensures.items ∙ each_begun (texts.scenario_lines c.args.words.now c.args.columns c.args.rows) _

pub loop-s-preserved : goal.loop-s-preserved
loop-s-preserved c = each_more (texts.scenario_lines c.args.words.now c.args.columns c.args.rows) c.loop-s.s _ _ _ c.loop-s.invariant c.in_ok-push_scenario.ensures

pub returns : goal.returns
returns c = each_ended (texts.scenario_lines c.args.words.now c.args.columns c.args.rows) c.loop-s.s _ _ _ c.loop-s.auto.s-end c.loop-s-test.false c.loop-s.invariant
