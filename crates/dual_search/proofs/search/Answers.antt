use Rattle.dual_search.proofs.NeighbourLemmas.{answer}
use Rattle.dual_search.proofs.search.Goals as goal

pub returns-clause-rows : goal.returns-clause-rows
returns-clause-rows c =
    (answer c.args.problem.now c.args.live c.args.boxes.now c.args.start.now c.in_ok-vector.vector c.in_ok-ascent.ascent c.ascend.new.self c.in_ok-ascent.ensures.carried c.in_ok-ascend.ensures.carried c.in_ok-ascend.ensures.same c.in_ok-ascend.ensures.ascended c.in_ok-ascent.ensures.scenarios c.in_ok-ascent.ensures.start c.in_ok-vector.ensures).rows_below

pub returns-clause-greater : goal.returns-clause-greater
returns-clause-greater c =
    (answer c.args.problem.now c.args.live c.args.boxes.now c.args.start.now c.in_ok-vector.vector c.in_ok-ascent.ascent c.ascend.new.self c.in_ok-ascent.ensures.carried c.in_ok-ascend.ensures.carried c.in_ok-ascend.ensures.same c.in_ok-ascend.ensures.ascended c.in_ok-ascent.ensures.scenarios c.in_ok-ascent.ensures.start c.in_ok-vector.ensures).greater
