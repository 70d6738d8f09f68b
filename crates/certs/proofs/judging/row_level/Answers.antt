use Rattle.certs.proofs.ProblemLemmas.{row_level-true, row_level-false}
use Rattle.certs.proofs.judging.row_level.Goals as goal

pub returns-then-misses : goal.returns-then-misses
returns-then-misses c = row_level-true c.args.problem.now c.args.s c.args.part.now _ _ c.args.row _ _ c.requires.scenario c.model-model.ensures c.ends.ensures.value c.row.ensures.value c.as_slice.ensures c.if-misses.ensures

pub returns-else-misses : goal.returns-else-misses
returns-else-misses c = row_level-false c.args.problem.now c.args.s c.args.part.now _ _ c.args.row _ _ c.requires.scenario c.model-model.ensures c.ends.ensures.value c.row.ensures.value c.as_slice.ensures c.if-misses.ensures
