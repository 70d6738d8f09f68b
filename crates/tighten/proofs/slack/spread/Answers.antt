use Rattle.std.proofs.Common.{arith, pos, ◌-ℤ◌, unsigned_abs, FitsSigned, w64, w32}
use Rattle.std.proofs.lemmas.Int.{ints, to_z-of_z}
use Rattle.tighten.proofs.CutLemmas.{spread-fits, spread-limit}
use Rattle.tighten.proofs.slack.spread.Goals as goal

pub overflow_mul-result : goal.overflow_mul-result
overflow_mul-result c =
    let coefficient_fits : FitsSigned w64 c.args.coefficient = c.ranges.coefficient in
    let low_fits : FitsSigned w32 c.args.low = c.ranges.low in
    let high_fits : FitsSigned w32 c.args.high = c.ranges.high in
    let low_wide : FitsSigned w64 c.args.low = omega (arith, ints, c.requires.low) in
    let high_wide : FitsSigned w64 c.args.high = omega (arith, ints, c.requires.high) in
    let size_wide : FitsSigned w64 (pos (unsigned_abs c.args.coefficient)) = omega (arith, ints, c.requires.coefficient) in
    let width_wide : FitsSigned w64 (c.args.high -ℤ c.args.low) = omega (arith, ints, c.requires.low, c.requires.high) in
    let size = simp to_z-of_z at c.abs.ensures.value in
    let high = simp to_z-of_z at c.from.ensures in
    let low = simp to_z-of_z at c.from-2.ensures in
    simp (size, high, low, to_z-of_z) (spread-fits c.args.coefficient c.args.low c.args.high c.requires.coefficient c.requires.low c.requires.high)

pub returns-clause-value : goal.returns-clause-value
returns-clause-value c =
    let coefficient_fits : FitsSigned w64 c.args.coefficient = c.ranges.coefficient in
    let low_fits : FitsSigned w32 c.args.low = c.ranges.low in
    let high_fits : FitsSigned w32 c.args.high = c.ranges.high in
    let low_wide : FitsSigned w64 c.args.low = omega (arith, ints, c.requires.low) in
    let high_wide : FitsSigned w64 c.args.high = omega (arith, ints, c.requires.high) in
    let size_wide : FitsSigned w64 (pos (unsigned_abs c.args.coefficient)) = omega (arith, ints, c.requires.coefficient) in
    let width_wide : FitsSigned w64 (c.args.high -ℤ c.args.low) = omega (arith, ints, c.requires.low, c.requires.high) in
    let size = simp to_z-of_z at c.abs.ensures.value in
    let high = simp to_z-of_z at c.from.ensures in
    let low = simp to_z-of_z at c.from-2.ensures in
    let fits = spread-fits c.args.coefficient c.args.low c.args.high c.requires.coefficient c.requires.low c.requires.high in
    simp (size, high, low, to_z-of_z)

pub returns-clause-limit : goal.returns-clause-limit
returns-clause-limit c =
    let coefficient_fits : FitsSigned w64 c.args.coefficient = c.ranges.coefficient in
    let low_fits : FitsSigned w32 c.args.low = c.ranges.low in
    let high_fits : FitsSigned w32 c.args.high = c.ranges.high in
    let low_wide : FitsSigned w64 c.args.low = omega (arith, ints, c.requires.low) in
    let high_wide : FitsSigned w64 c.args.high = omega (arith, ints, c.requires.high) in
    let size_wide : FitsSigned w64 (pos (unsigned_abs c.args.coefficient)) = omega (arith, ints, c.requires.coefficient) in
    let width_wide : FitsSigned w64 (c.args.high -ℤ c.args.low) = omega (arith, ints, c.requires.low, c.requires.high) in
    let size = simp to_z-of_z at c.abs.ensures.value in
    let high = simp to_z-of_z at c.from.ensures in
    let low = simp to_z-of_z at c.from-2.ensures in
    let fits = spread-fits c.args.coefficient c.args.low c.args.high c.requires.coefficient c.requires.low c.requires.high in
    simp (size, high, low, to_z-of_z) (spread-limit c.args.coefficient c.args.low c.args.high c.requires.coefficient c.requires.low c.requires.high)
