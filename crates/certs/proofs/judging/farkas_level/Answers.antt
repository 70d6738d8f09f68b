use Rattle.std.proofs.Common.{rules, arith, ◌≡◌, pos, ◌<ℤ◌, ◌≤ℤ◌, FitsSigned}
use Rattle.std.proofs.lemmas.Int.{ints}
use mir.Syntax.{w128}
use Rattle.certs.proofs.ProblemLemmas.{farkas-positive, farkas-other}
use Rattle.certs.proofs.judging.farkas_level.Goals as goal

pub returns-then-sum-gt0 : goal.returns-then-sum-gt0
returns-then-sum-gt0 c =
    let fits : FitsSigned w128 c.evaluate_with-sum.result = omega (arith, ints, c.evaluate_with-sum.ensures.limit) in
    let zero : c.args.vector.now.scale ≡ 0 = search rules in
    let positive : pos 0 <ℤ c.evaluate_with-sum.result = search rules in
    farkas-positive c.args.problem.now c.args.s c.model.result.now c.costs.result.now c.ends.result.now c.args.vector.now c.args.part.now c.evaluate_with-sum.result (record { scenario = c.requires.scenario; model = c.model.ensures; costs_are = c.costs.ensures.value; ends_are = c.ends.ensures.value }) zero c.evaluate_with-sum.ensures.value positive

pub returns-else-sum-gt0 : goal.returns-else-sum-gt0
returns-else-sum-gt0 c =
    let fits : FitsSigned w128 c.evaluate_with-sum.result = omega (arith, ints, c.evaluate_with-sum.ensures.limit) in
    let zero : c.args.vector.now.scale ≡ 0 = search rules in
    let positive : c.evaluate_with-sum.result ≤ℤ pos 0 = search rules in
    farkas-other c.args.problem.now c.args.s c.model.result.now c.costs.result.now c.ends.result.now c.args.vector.now c.args.part.now c.evaluate_with-sum.result (record { scenario = c.requires.scenario; model = c.model.ensures; costs_are = c.costs.ensures.value; ends_are = c.ends.ensures.value }) zero c.evaluate_with-sum.ensures.value positive
