use Rattle.std.proofs.Common.{arith, ◌≤ℤ◌, ◌<ℤ◌, FitsSigned, w64, w32}
use Rattle.std.proofs.lemmas.Int.{ints, to_z-of_z}
use Rattle.tighten.proofs.NarrowLemmas.{cut-above-left}
use Rattle.tighten.proofs.narrow.cut_above.Goals as goal

pub returns-then-most-from-2 : goal.returns-then-most-from-2
returns-then-most-from-2 c =
    let low_fits : FitsSigned w32 c.args.low = c.ranges.low in
    let high_fits : FitsSigned w32 c.args.high = c.ranges.high in
    let most_fits : FitsSigned w64 c.args.most = c.ranges.most in
    let low_wide : FitsSigned w64 c.args.low = omega (arith, ints, c.requires.low) in
    let high_wide : FitsSigned w64 c.args.high = omega (arith, ints, c.requires.high) in
    let below : c.args.most <ℤ c.args.high = omega (arith, ints, simp (c.from.ensures, to_z-of_z) at c.if-most-from.false) in
    let above : c.args.low ≤ℤ c.args.most = omega (arith, ints, simp (c.from-else-most-from.ensures, to_z-of_z) at c.if-most-from-2.true) in
    let narrow_fits : FitsSigned w32 c.args.most = omega (arith, ints, below, above, c.requires.low, c.requires.high) in
    simp to_z-of_z (cut-above-left c.args.most c.args.low c.args.high c.requires.low c.requires.high above below)
