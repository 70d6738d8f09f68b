use Rattle.std.proofs.Common.{arith, FitsSigned, w64}
use Rattle.std.proofs.lemmas.Int.{ints, to_z-of_z}
use Rattle.tighten.proofs.EndSumLemmas.{end_sum-lower, end_sum-upper}
use Rattle.tighten.proofs.end_sum.end_sum.Goals as goal

pub returns-in-Lower : goal.returns-in-Lower
returns-in-Lower c =
    let fits : FitsSigned w64 c.most.result = omega (arith, ints, c.most.ensures.limit) in
    simp to_z-of_z (end_sum-lower c.args.terms.now c.args.side c.args.bounds.now _ _ c.most.result c.in-Lower.is c.lows-lows.ensures.value c.highs-highs.ensures.value c.most.ensures.value)

pub returns-in-Upper : goal.returns-in-Upper
returns-in-Upper c =
    let fits : FitsSigned w64 c.least.result = omega (arith, ints, c.least.ensures.limit) in
    simp to_z-of_z (end_sum-upper c.args.terms.now c.args.side c.args.bounds.now _ _ c.least.result c.in-Upper.is c.lows-lows.ensures.value c.highs-highs.ensures.value c.least.ensures.value)
