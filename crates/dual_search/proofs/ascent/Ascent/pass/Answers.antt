use Rattle.dual_search.proofs.PassLemmas.{same-search, passed-more}
use Rattle.dual_search.proofs.ascent.Ascent.pass.Goals as goal

pub loop-row-preserved : goal.loop-row-preserved
loop-row-preserved c = record {
  carried = c.in_ok-moved.ensures.carried;
  same = same-search c.args.self.now c.loop-row.self c.ascend_row.new.self c.loop-row.invariant.same c.in_ok-moved.ensures.same;
  passed = passed-more c.args.problem.now c.args.boxes.now c.args.self.now c.loop-row.self c.ascend_row.new.self c.loop-row.row c.loop-row.moved c.in_ok-moved.field-0 c.loop-row.invariant.same c.in_ok-moved.ensures.same c.loop-row.invariant.passed c.in_ok-moved.ensures.ascends;
}
