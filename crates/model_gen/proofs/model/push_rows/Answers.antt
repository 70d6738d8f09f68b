use Rattle.model_gen.specs.Texts as texts
use Rattle.model_gen.proofs.TextLemmas.{each_begun, each_more, each_ended}
use Rattle.model_gen.proofs.model.push_rows.Goals as goal

pub loop-i-init : goal.loop-i-init
loop-i-init c = each_begun (texts.row_line) _

pub loop-i-preserved : goal.loop-i-preserved
loop-i-preserved c = each_more (texts.row_line) c.loop-i.i _ _ _ c.loop-i.invariant c.in_ok-push_row.ensures

pub returns : goal.returns
returns c = each_ended (texts.row_line) c.loop-i.i _ _ _ c.loop-i.auto.i-end c.loop-i-test.false c.loop-i.invariant
