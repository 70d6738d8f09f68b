use Rattle.scenario_changes.specs.Problems.{problem}
use Rattle.tree_check.proofs.PointLemmas.{feasible-columns, feasible-small}
use Rattle.tree_check.proofs.claims.has_value.Goals as goal

pub value-requires-clause-columns : goal.value-requires-clause-columns
value-requires-clause-columns c = feasible-columns (problem c.args.problem.now) c.args.s c.as_slice-x.result.now c.count-count.ensures.limits c.requires (c.meets.ensures.0 c.if-meets.true)

pub value-requires-clause-bounds : goal.value-requires-clause-bounds
value-requires-clause-bounds c = feasible-small (problem c.args.problem.now) c.args.s c.as_slice-x.result.now c.count-count.ensures.limits c.requires (c.meets.ensures.0 c.if-meets.true)
