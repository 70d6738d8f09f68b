use Rattle.std.proofs.Common.{rules, arith, ◌≡◌, ◌∙◌, ap, sym, subst, pos, ◌<ℤ◌, FitsSigned, w64, w32}
use Rattle.std.specs.Int.{int_div_euclid}
use Rattle.std.proofs.lemmas.Int.{ints, to_z-of_z}
use Rattle.int_model.specs.Boxes.{Interval, at_most}
use Rattle.tighten.specs.Replay.{narrowed}
use Rattle.tighten.specs.Steps.{IsLeft}
use Rattle.tighten.proofs.NarrowLemmas.{narrowed-above, interval}
use Rattle.tighten.proofs.narrow.narrow.Goals as goal

pub returns-then-coefficient-gt0 : goal.returns-then-coefficient-gt0
returns-then-coefficient-gt0 c =
    let i : Interval = interval c.args.low c.args.high in
    let low_fits : FitsSigned w32 c.args.low = c.ranges.low in
    let high_fits : FitsSigned w32 c.args.high = c.ranges.high in
    let coefficient_fits : FitsSigned w64 c.args.coefficient = c.ranges.coefficient in
    let limit_fits : FitsSigned w64 c.args.limit = c.ranges.limit in
    let quotient_fits : FitsSigned w64 c.div_euclid.result = search rules in
    let quotient : c.div_euclid.result ≡ int_div_euclid c.args.limit c.args.coefficient = simp to_z-of_z at c.div_euclid.ensures in
    let above : pos 0 <ℤ c.args.coefficient = omega (arith, ints, simp to_z-of_z at c.if-coefficient-gt0.true) in
    let same : at_most i c.div_euclid.result ≡ narrowed c.args.coefficient c.args.limit i = ap (at_most i) quotient ∙ sym (narrowed-above c.args.coefficient c.args.limit i above) in
    let left = simp to_z-of_z at c.cut_above.ensures in
    subst (λ (k : Interval). IsLeft k c.cut_above.result) same left
