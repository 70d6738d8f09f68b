use Rattle.std.proofs.Common.{rules, arith, ◌≡◌, ◌∙◌, ap, ℤ, pos, ◌+ℤ◌, FitsSigned, w64}
use Rattle.std.proofs.lemmas.Int.{ints, to_z-of_z}
use mir.Syntax.{w128}
use Rattle.int_model.specs.Integers.{ceil_div}
use Rattle.dual_bounds.specs.Vectors.{within_range}
use Rattle.dual_bounds.proofs.bounding.bound_of_sum.Goals as goal

pub returns-clause-value : goal.returns-clause-value
returns-clause-value c =
    let quotient_fits : FitsSigned w128 c.quotient.result = omega (arith, ints, c.quotient.ensures.limit) in
    let nearest_fits : FitsSigned w64 c.nearest.result = omega (arith, ints, c.nearest.ensures.limit) in
    let constant_fits : FitsSigned w64 c.args.constant = c.ranges.constant in
    let constant_wide : FitsSigned w128 c.args.constant = omega (arith, ints, constant_fits) in
    let constant : c.from.result ≡ c.args.constant = search rules in
    let total_fits : FitsSigned w128 (c.quotient.result +ℤ c.args.constant) = omega (arith, ints, c.quotient.ensures.limit, constant_fits) in
    let sum_fits : FitsSigned w128 c.args.sum = omega (arith, ints, c.requires.sum) in
    let quotient : c.quotient.result ≡ ceil_div c.args.sum (pos c.args.scale) = simp to_z-of_z at c.quotient.ensures.value in
    let raw_nearest : c.nearest.result ≡ within_range (c.quotient.result +ℤ c.args.constant) = simp (constant, to_z-of_z) at c.nearest.ensures.value in
    to_z-of_z w64 c.nearest.result nearest_fits ∙ raw_nearest ∙ ap (λ (z : ℤ). within_range (z +ℤ c.args.constant)) quotient
