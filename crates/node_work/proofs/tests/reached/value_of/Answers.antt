use Rattle.std.proofs.Common.{rules, arith, ◌<◌, ℕ, length, subst}
use Rattle.scenario_changes.specs.Problems.{problem}
use Rattle.node_work.proofs.ReachedLaws.{feasible-columns, feasible-small}
use Rattle.node_work.proofs.tests.reached.value_of.Goals as goal

pub value-requires-clause-columns : goal.value-requires-clause-columns
value-requires-clause-columns c =
    let in_range : c.args.s < length (problem c.args.problem.now).scenarios = omega (arith, c.count.ensures.count) in
    feasible-columns c.args.problem.now c.args.s c.args.x.now c.count.ensures.limits in_range (c.meets.ensures.0 c.if-not-meets.false)

pub value-requires-clause-bounds : goal.value-requires-clause-bounds
value-requires-clause-bounds c =
    let in_range : c.args.s < length (problem c.args.problem.now).scenarios = omega (arith, c.count.ensures.count) in
    feasible-small c.args.problem.now c.args.s c.args.x.now c.count.ensures.limits in_range (c.meets.ensures.0 c.if-not-meets.false)
