use Rattle.std.proofs.Common.{arith, ◌≡◌, ◌≤◌, ◌*◌, ◌^◌, sym, subst, ℤ, pos, ◌+ℤ◌, ◌-ℤ◌, neg_ℤ, unsigned_abs, Option, IfSome, FitsSigned, w64, w32}
use Rattle.std.proofs.lemmas.Int.{ints, to_z-of_z}
use Rattle.int_model.specs.Boxes.{Interval}
use Rattle.int_model.specs.RowSums.{least_product}
use Rattle.tighten.specs.Replay.{narrowed}
use Rattle.tighten.specs.Cuts.{IsCut, above_end, interval}
use Rattle.tighten.proofs.slack.above.Goals as goal

pub returns-in-Some : goal.returns-in-Some
returns-in-Some c =
    let coefficient_fits : FitsSigned w64 c.args.coefficient = c.ranges.coefficient in
    let turned_fits : FitsSigned w64 (pos 0 -ℤ c.args.coefficient) = omega (arith, ints, c.requires.coefficient) in
    let sum_fits : FitsSigned w64 c.args.most = c.ranges.most in
    let low_fits : FitsSigned w32 c.args.low = c.ranges.low in
    let high_fits : FitsSigned w32 c.args.high = c.ranges.high in
    let end_small : unsigned_abs c.in-Some.end ≤ 2 * 10 ^ 18 = subst (λ (o : Option ℤ). IfSome o (λ u. unsigned_abs u ≤ 2 * 10 ^ 18)) c.in-Some.is c.requires.end in
    let end_fits : FitsSigned w64 c.in-Some.end = omega (arith, ints, end_small) in
    let slack_fits : FitsSigned w64 (c.args.most -ℤ c.in-Some.end) = omega (arith, ints, end_small, c.requires.most) in
    let turned : pos 0 -ℤ c.args.coefficient ≡ neg_ℤ c.args.coefficient = omega (arith, ints) in
    let i : Interval = interval c.args.low c.args.high in
    let cut = subst (λ (a : ℤ). IsCut (narrowed a (c.args.most -ℤ c.in-Some.end +ℤ least_product a i) i) i c.narrowed.result) turned (simp to_z-of_z at c.narrowed.ensures) in
    subst (λ (o : Option ℤ). IsCut (above_end o c.args.most c.args.coefficient (interval c.args.low c.args.high)) (interval c.args.low c.args.high) c.narrowed.result) (sym c.in-Some.is) cut
