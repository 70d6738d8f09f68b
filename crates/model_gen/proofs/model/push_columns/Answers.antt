use Rattle.model_gen.specs.Texts as texts
use Rattle.model_gen.proofs.TextLemmas.{each_begun, each_more, each_ended}
use Rattle.model_gen.proofs.model.push_columns.Goals as goal

pub loop-j-init : goal.loop-j-init
loop-j-init c = each_begun (texts.column_lines c.args.words.now c.args.rows) _

pub loop-j-preserved : goal.loop-j-preserved
loop-j-preserved c = each_more (texts.column_lines c.args.words.now c.args.rows) c.loop-j.j _ _ _ c.loop-j.invariant c.in_ok-push_column.ensures

pub returns : goal.returns
returns c = each_ended (texts.column_lines c.args.words.now c.args.rows) c.loop-j.j _ _ _ c.loop-j.auto.j-end c.loop-j-test.false c.loop-j.invariant
