use Rattle.std.proofs.Common.{arith, ◌≡◌, sym, subst, pos, ◌+ℤ◌, ◌-ℤ◌, ◌*ℤ◌, ◌≤ℤ◌, unsigned_abs, FitsSigned, w64, w32}
use Rattle.std.proofs.lemmas.Int.{ints, to_z-of_z}
use Rattle.int_model.specs.RowSums.{least_product}
use Rattle.tighten.specs.Cuts.{interval}
use Rattle.tighten.proofs.CutLemmas.{cut-none, cut-left, spread-fits}
use Rattle.tighten.proofs.slack.narrowed.Goals as goal

pub returns-then-spread-slack : goal.returns-then-spread-slack
returns-then-spread-slack c =
    let coefficient_fits : FitsSigned w64 c.args.coefficient = c.ranges.coefficient in
    let slack_fits : FitsSigned w64 c.args.slack = c.ranges.slack in
    let low_fits : FitsSigned w32 c.args.low = c.ranges.low in
    let high_fits : FitsSigned w32 c.args.high = c.ranges.high in
    let fits = spread-fits c.args.coefficient c.args.low c.args.high c.requires.coefficient c.requires.low c.requires.high in
    let spread : c.spread.result ≡ pos (unsigned_abs c.args.coefficient) *ℤ (c.args.high -ℤ c.args.low) = simp to_z-of_z at c.spread.ensures.value in
    let spread_fits : FitsSigned w64 c.spread.result = subst (FitsSigned w64) (sym spread) fits in
    let test : c.spread.result ≤ℤ c.args.slack = omega (arith, ints, simp to_z-of_z at c.if-spread-slack.true) in
    cut-none c.args.coefficient c.args.slack c.args.low c.args.high c.spread.result c.requires.occupied spread test

pub returns-in-Some : goal.returns-in-Some
returns-in-Some c =
    let coefficient_fits : FitsSigned w64 c.args.coefficient = c.ranges.coefficient in
    let slack_fits : FitsSigned w64 c.args.slack = c.ranges.slack in
    let low_fits : FitsSigned w32 c.args.low = c.ranges.low in
    let high_fits : FitsSigned w32 c.args.high = c.ranges.high in
    let least = simp to_z-of_z at c.least_of.ensures.value in
    let least_fits : FitsSigned w64 (least_product c.args.coefficient (interval c.args.low c.args.high)) = omega (arith, ints, c.least_of.ensures.limit, least) in
    let limit_fits : FitsSigned w64 (c.args.slack +ℤ least_product c.args.coefficient (interval c.args.low c.args.high)) = omega (arith, ints, c.requires.slack, c.least_of.ensures.limit, least) in
    let left = simp (least, to_z-of_z) at c.in-Some.ensures in
    let first_fits : FitsSigned w32 c.in-Some.first = omega (arith, ints, left.2) in
    let last_fits : FitsSigned w32 c.in-Some.last = omega (arith, ints, left.3) in
    let cut = simp to_z-of_z at c.compared.ensures in
    cut-left _ _ _ _ _ left cut

pub returns-in-None : goal.returns-in-None
returns-in-None c =
    let coefficient_fits : FitsSigned w64 c.args.coefficient = c.ranges.coefficient in
    let slack_fits : FitsSigned w64 c.args.slack = c.ranges.slack in
    let low_fits : FitsSigned w32 c.args.low = c.ranges.low in
    let high_fits : FitsSigned w32 c.args.high = c.ranges.high in
    let least = simp to_z-of_z at c.least_of.ensures.value in
    let least_fits : FitsSigned w64 (least_product c.args.coefficient (interval c.args.low c.args.high)) = omega (arith, ints, c.least_of.ensures.limit, least) in
    let limit_fits : FitsSigned w64 (c.args.slack +ℤ least_product c.args.coefficient (interval c.args.low c.args.high)) = omega (arith, ints, c.requires.slack, c.least_of.ensures.limit, least) in
    simp (least, to_z-of_z) at c.in-None.ensures
