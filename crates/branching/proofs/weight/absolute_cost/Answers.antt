use Rattle.std.proofs.Common.{arith, pos, ◌^◌, get_or, FitsSigned, w64}
use Rattle.std.proofs.lemmas.Int.{ints, to_z-of_z}
use Rattle.scenario_changes.proofs.SumLemmas.{cost_at}
use Rattle.branching.proofs.weight.absolute_cost.Goals as goal

pub returns : goal.returns
returns c =
    let small = cost_at (10 ^ 9) c.costs.result.now c.args.column (pos 0) c.costs.ensures.limits (omega (arith, c.costs.ensures.count, c.requires.column)) in
    let fits : FitsSigned w64 (get_or c.costs.result.now c.args.column (pos 0)) = omega (arith, ints, small) in
    let value = simp to_z-of_z at c.unsigned_abs.ensures.value in
    omega (arith, ints, small, value)
