use Rattle.scenario_changes.specs.Problems as problems
use Rattle.std.proofs.Common.{arith, ◌∙◌, FitsSigned, w64}
use Rattle.std.proofs.lemmas.Int.{ints, to_z-of_z}
use Rattle.core_machine.proofs.OfferLaws.{feasible-columns, feasible-small, level-is}
use Rattle.core_machine.proofs.state.level_of.Goals as goal

pub value-requires-clause-columns : goal.value-requires-clause-columns
value-requires-clause-columns c = feasible-columns (problems.problem c.args.problem.now) c.requires.limits c.args.scenario c.args.point.now c.requires.feasible

pub value-requires-clause-bounds : goal.value-requires-clause-bounds
value-requires-clause-bounds c = feasible-small (problems.problem c.args.problem.now) c.requires.limits c.args.scenario c.args.point.now c.requires.feasible

pub returns : goal.returns
returns c =
    let fits : FitsSigned w64 c.value.result = omega (arith, ints, c.value.ensures.limit) in
    level-is (problems.problem c.args.problem.now) c.requires.limits c.args.scenario c.args.point.now c.requires.feasible _ (to_z-of_z w64 c.value.result fits ∙ c.value.ensures.value)
