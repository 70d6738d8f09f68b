use Rattle.std.proofs.Common.{arith, ◌≤◌, ◌*◌, ◌^◌, sym, subst, ℤ, ◌-ℤ◌, neg_ℤ, unsigned_abs, Option, IfSome, FitsSigned, w64, w32}
use Rattle.std.proofs.lemmas.Int.{ints, to_z-of_z}
use Rattle.tighten.specs.Cuts.{IsCut, below_end, interval}
use Rattle.tighten.proofs.slack.below.Goals as goal

pub returns-in-Some : goal.returns-in-Some
returns-in-Some c =
    let coefficient_fits : FitsSigned w64 c.args.coefficient = c.ranges.coefficient in
    let turned_fits : FitsSigned w64 (neg_ℤ c.args.coefficient) = omega (arith, ints, c.requires.coefficient) in
    let sum_fits : FitsSigned w64 c.args.least = c.ranges.least in
    let low_fits : FitsSigned w32 c.args.low = c.ranges.low in
    let high_fits : FitsSigned w32 c.args.high = c.ranges.high in
    let end_small : unsigned_abs c.in-Some.end ≤ 2 * 10 ^ 18 = subst (λ (o : Option ℤ). IfSome o (λ u. unsigned_abs u ≤ 2 * 10 ^ 18)) c.in-Some.is c.requires.end in
    let end_fits : FitsSigned w64 c.in-Some.end = omega (arith, ints, end_small) in
    let slack_fits : FitsSigned w64 (c.in-Some.end -ℤ c.args.least) = omega (arith, ints, end_small, c.requires.least) in
    let cut = simp to_z-of_z at c.narrowed.ensures in
    subst (λ (o : Option ℤ). IsCut (below_end o c.args.least c.args.coefficient (interval c.args.low c.args.high)) (interval c.args.low c.args.high) c.narrowed.result) (sym c.in-Some.is) cut
