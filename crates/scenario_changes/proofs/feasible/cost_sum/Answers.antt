use Rattle.std.proofs.Common.{rules, arith, pos, ◌<◌, ◌≤◌, ◌^◌, length, get_or, unsigned_abs, FitsSigned, w64, w32}
use Rattle.std.proofs.lemmas.Int.{ints, to_z-of_z}
use Rattle.scenario_changes.proofs.SumLemmas.{cost_at, dot-more}
use Rattle.scenario_changes.proofs.feasible.cost_sum.Goals as goal

pub product-sum-requires-clause-coefficient : goal.product-sum-requires-clause-coefficient
product-sum-requires-clause-coefficient c =
    let small = cost_at (10 ^ 9) c.args.costs.now c.loop-j.j (pos 0) c.requires.costs c.loop-j-test.true in
    omega (arith, ints, small)

pub loop-j-preserved : goal.loop-j-preserved
loop-j-preserved c =
    let small : unsigned_abs (get_or c.args.costs.now c.loop-j.j (pos 0)) ≤ 10 ^ 9 = cost_at (10 ^ 9) c.args.costs.now c.loop-j.j (pos 0) c.requires.costs c.loop-j-test.true in
    let number : c.loop-j.j < length c.args.x.now = omega arith in
    let cost_fits : FitsSigned w64 (get_or c.args.costs.now c.loop-j.j (pos 0)) = omega (arith, ints, small) in
    let number_fits : FitsSigned w32 (get_or c.args.x.now c.loop-j.j (pos 0)) = search rules in
    let value = simp to_z-of_z at c.product-sum.ensures.value in
    record {
      so_far = dot-more _ _ c.loop-j.j (pos 0) _ _ _ c.loop-j-test.true number c.loop-j.invariant.so_far value (omega (arith, ints));
      limit = omega (arith, ints);
    }
