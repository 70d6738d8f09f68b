use Rattle.std.proofs.Common.{rules}
use Rattle.certs.proofs.ProblemLemmas.{rows-at}
use Rattle.node_work.proofs.verdicts.shown_by.Goals as goal

pub bound_level-requires-clause-rows : goal.bound_level-requires-clause-rows
bound_level-requires-clause-rows c = rows-at _ c.args.vectors.now c.args.k c.in-Some.vector.now c.requires.rows (search rules)

pub farkas_level-requires-clause-rows : goal.farkas_level-requires-clause-rows
farkas_level-requires-clause-rows c = rows-at _ c.args.vectors.now c.args.k c.in-Some.vector.now c.requires.rows (search rules)
