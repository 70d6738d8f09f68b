use Rattle.std.proofs.Common.{arith, ◌∙◌, FitsSigned}
use Rattle.std.proofs.lemmas.Int.{ints, to_z-of_z}
use mir.Syntax.{w128}
use Rattle.node_work.proofs.TotalLaws.{sum-read}
use Rattle.node_work.proofs.multipliers.sum_of.Goals as goal

pub returns-clause-value : goal.returns-clause-value
returns-clause-value c =
    let fits : FitsSigned w128 c.evaluate_with.result = omega (arith, ints, c.evaluate_with.ensures.limit) in
    rw (to_z-of_z w128 c.evaluate_with.result fits) (c.evaluate_with.ensures.value ∙ sum-read c.args.problem.now c.args.s c.model.result.now c.costs.result.now c.ends.result.now c.args.vector.now c.args.part.now (record { scenario = c.requires.scenario; model = c.model.ensures; costs_are = c.costs.ensures.value; ends_are = c.ends.ensures.value }))
