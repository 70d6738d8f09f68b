use Rattle.std.proofs.Common.{rules, arith, ◌≡◌, true, FitsSigned, w64}
use Rattle.std.specs.Prelude.{nat_lt}
use Rattle.std.proofs.lemmas.Int.{ints, to_z-of_z}
use Rattle.dual_bounds.specs.Vectors.{rows_of, vector_bound}
use Rattle.certs.proofs.ProblemLemmas.{bound-level}
use Rattle.certs.proofs.judging.bound_level.Goals as goal

pub returns : goal.returns
returns c =
    let fits : FitsSigned w64 c.bound_with-value.result = omega (arith, ints, c.bound_with-value.ensures.limit) in
    let constant_fits : FitsSigned w64 c.constant.result = search rules in
    let value : c.bound_with-value.result ≡ vector_bound (rows_of c.model.result.now) c.ends.result.now c.costs.result.now c.constant.result c.args.vector.now c.args.part.now = simp to_z-of_z at c.bound_with-value.ensures.value in
    let positive : nat_lt 0 c.args.vector.now.scale ≡ true = search rules in
    rw (to_z-of_z w64 c.bound_with-value.result fits) (bound-level c.args.problem.now c.args.s c.model.result.now c.costs.result.now c.ends.result.now c.constant.result c.args.vector.now c.args.part.now c.bound_with-value.result (record { scenario = c.requires.scenario; model = c.model.ensures; costs_are = c.costs.ensures.value; ends_are = c.ends.ensures.value }) (c.constant.ensures.value c.args.s c.requires.scenario) positive value)
