use Rattle.std.proofs.Common.{ap}
use Rattle.std.specs.Prelude.{codes}
use Rattle.changes_reader.specs.Words.{text_of}
use Rattle.changes_reader.proofs.LineLemmas.{by_word, obj_kind, obj_made, obj_line, obj_taken, lb_kind, lb_made, lb_line, lb_taken, ub_kind, ub_made, ub_line, ub_taken, rhs_kind, rhs_made, rhs_line, rhs_taken}
use Rattle.changes_reader.proofs.line.take_line.Goals as goal

pub returns-in-Obj-len3 : goal.returns-in-Obj-len3
returns-in-Obj-len3 c = by_word (codes "obj") obj_kind obj_made obj_line obj_taken c.args.tables.now.model.now c.args.is_first c.args.changes.now c.take_cost.new.changes c.args.fields.now _ _ _ (text_of c.in_ok-word.word) c.take_cost.result c.in-Obj-len3.len_at_least c.in-Obj-len3.len_below (ap text_of c.in-Obj-len3.is-0) c.in_ok-word.ensures.ok.1 c.in_ok-word.ensures.ok.0 c.take_cost.ensures

pub returns-in-Lb-len3 : goal.returns-in-Lb-len3
returns-in-Lb-len3 c = by_word (codes "lb") lb_kind lb_made lb_line lb_taken c.args.tables.now.model.now c.args.is_first c.args.changes.now c.take_low.new.changes c.args.fields.now _ _ _ (text_of c.in_ok-word.word) c.take_low.result c.in-Lb-len3.len_at_least c.in-Lb-len3.len_below (ap text_of c.in-Lb-len3.is-0) c.in_ok-word.ensures.ok.1 c.in_ok-word.ensures.ok.0 c.take_low.ensures

pub returns-in-Ub-len3 : goal.returns-in-Ub-len3
returns-in-Ub-len3 c = by_word (codes "ub") ub_kind ub_made ub_line ub_taken c.args.tables.now.model.now c.args.is_first c.args.changes.now c.take_high.new.changes c.args.fields.now _ _ _ (text_of c.in_ok-word.word) c.take_high.result c.in-Ub-len3.len_at_least c.in-Ub-len3.len_below (ap text_of c.in-Ub-len3.is-0) c.in_ok-word.ensures.ok.1 c.in_ok-word.ensures.ok.0 c.take_high.ensures

pub returns-in-Rhs-len3 : goal.returns-in-Rhs-len3
returns-in-Rhs-len3 c = by_word (codes "rhs") rhs_kind rhs_made rhs_line rhs_taken c.args.tables.now.model.now c.args.is_first c.args.changes.now c.take_rhs.new.changes c.args.fields.now _ _ _ (text_of c.in_ok-word.word) c.take_rhs.result c.in-Rhs-len3.len_at_least c.in-Rhs-len3.len_below (ap text_of c.in-Rhs-len3.is-0) c.in_ok-word.ensures.ok.1 c.in_ok-word.ensures.ok.0 c.take_rhs.ensures
