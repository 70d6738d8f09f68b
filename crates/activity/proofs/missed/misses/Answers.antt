use Rattle.std.proofs.Common.{◌≡◌, true, false, arith, rules, FitsSigned, w64}
use Rattle.std.specs.Prelude.{int_lt}
use Rattle.std.proofs.lemmas.Int.{ints, to_z-of_z}
use Rattle.activity.proofs.MissedLemmas.{misses-upper, misses-lower, misses-above, misses-below}
use Rattle.activity.proofs.missed.misses.Goals as goal

pub returns-in-None-Some : goal.returns-in-None-Some
returns-in-None-Some c =
    let sum_fits : FitsSigned w64 c.least.result = omega (arith, ints, c.least.ensures.limit) in
    let end_fits : FitsSigned w64 c.in-None-Some.upper = search rules in
    simp to_z-of_z (misses-upper c.args.terms.now c.args.ends c.args.bounds.now _ _ _ _ c.lows-lows.ensures.value c.highs-highs.ensures.value c.in-None-Some.is-0 c.in-None-Some.is-1 c.least.ensures.value)

pub returns-in-Some-None : goal.returns-in-Some-None
returns-in-Some-None c =
    let sum_fits : FitsSigned w64 c.most.result = omega (arith, ints, c.most.ensures.limit) in
    let end_fits : FitsSigned w64 c.in-Some-None.lower = search rules in
    simp to_z-of_z (misses-lower c.args.terms.now c.args.ends c.args.bounds.now _ _ _ _ c.lows-lows.ensures.value c.highs-highs.ensures.value c.in-Some-None.is-0 c.in-Some-None.is-1 c.most.ensures.value)

pub returns-then-upper-least : goal.returns-then-upper-least
returns-then-upper-least c =
    let least_fits : FitsSigned w64 c.sums-least.result.0 = omega (arith, ints, c.sums-least.ensures.least_limit) in
    let end_fits : FitsSigned w64 c.in-Some-Some.upper = search rules in
    let above : int_lt c.in-Some-Some.upper c.sums-least.result.0 ≡ true = simp to_z-of_z at c.if-upper-least.true in
    simp to_z-of_z (misses-above c.args.terms.now c.args.ends c.args.bounds.now _ _ _ _ _ _ c.lows-lows.ensures.value c.highs-highs.ensures.value c.in-Some-Some.is-0 c.in-Some-Some.is-1 c.sums-least.ensures.least c.sums-least.ensures.most above)

pub returns-else-upper-least : goal.returns-else-upper-least
returns-else-upper-least c =
    let least_fits : FitsSigned w64 c.sums-least.result.0 = omega (arith, ints, c.sums-least.ensures.least_limit) in
    let most_fits : FitsSigned w64 c.sums-least.result.1 = omega (arith, ints, c.sums-least.ensures.most_limit) in
    let upper_fits : FitsSigned w64 c.in-Some-Some.upper = search rules in
    let lower_fits : FitsSigned w64 c.in-Some-Some.lower = search rules in
    let within : int_lt c.in-Some-Some.upper c.sums-least.result.0 ≡ false = simp to_z-of_z at c.if-upper-least.false in
    simp to_z-of_z (misses-below c.args.terms.now c.args.ends c.args.bounds.now _ _ _ _ _ _ c.lows-lows.ensures.value c.highs-highs.ensures.value c.in-Some-Some.is-0 c.in-Some-Some.is-1 c.sums-least.ensures.least c.sums-least.ensures.most within)
