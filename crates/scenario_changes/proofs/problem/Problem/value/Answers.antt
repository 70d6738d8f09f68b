use Rattle.std.proofs.Common.{rules, arith, ◌∙◌, ◌+ℤ◌, ap, sym, List, ℤ, FitsSigned, w64}
use Rattle.std.proofs.lemmas.Int.{ints, to_z-of_z}
use Rattle.int_model.specs.Integers.{dot}
use Rattle.scenario_changes.specs.Problems.{problem, program_at}
use Rattle.scenario_changes.proofs.problem.Problem.value.Goals as goal

pub returns-clause-value : goal.returns-clause-value
returns-clause-value c =
    let sum_fits : FitsSigned w64 c.cost_sum.result = search rules in
    let constant_fits : FitsSigned w64 c.constant.result = search rules in
    let fits : FitsSigned w64 (c.cost_sum.result +ℤ c.constant.result) = omega (arith, ints) in
    let program = program_at (problem c.args.self.now) c.args.s in
    rw (to_z-of_z w64 c.cost_sum.result sum_fits, to_z-of_z w64 c.constant.result constant_fits, to_z-of_z w64 (c.cost_sum.result +ℤ c.constant.result) fits)
    (ap (λ (z : ℤ). z +ℤ c.constant.result) (c.cost_sum.ensures.value ∙ ap (λ (cs : List ℤ). dot cs c.args.x.now) c.costs.ensures.value)
    ∙ ap (λ (z : ℤ). dot program.costs c.args.x.now +ℤ z) (sym (c.constant.ensures.value c.args.s c.requires.scenario)))
