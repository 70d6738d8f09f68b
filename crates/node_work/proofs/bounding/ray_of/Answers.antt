use Rattle.std.proofs.Common.{rules, sym, subst, length}
use Rattle.dual_bounds.specs.Vectors.{Multipliers, RowsBelow}
use Rattle.certs.proofs.ProblemLemmas.{rows-at}
use Rattle.node_work.proofs.bounding.ray_of.Goals as goal

pub raise_by-shows-requires-clause-rows : goal.raise_by-shows-requires-clause-rows
raise_by-shows-requires-clause-rows c = subst (λ (v : Multipliers). RowsBelow (length c.args.problem.now.model.rows) v.entries) (sym c.in_ok-ray.ensures) (rows-at _ c.args.made.now 0 c.in-Some.vector.now c.requires.made (search rules))

pub returns-then-shows : goal.returns-then-shows
returns-then-shows c = subst (λ (v : Multipliers). RowsBelow (length c.args.problem.now.model.rows) v.entries) (sym c.in_ok-ray.ensures) (rows-at _ c.args.made.now 0 c.in-Some.vector.now c.requires.made (search rules))
