use Rattle.std.proofs.Common.{arith, ◌≡◌, ◌≤ℤ◌, ◌<ℤ◌, sym, ◌∙◌, pos, ◌*ℤ◌, FitsSigned, w64, w32}
use Rattle.std.proofs.lemmas.Int.{ints, to_z-of_z}
use Rattle.int_model.specs.Boxes.{Interval}
use Rattle.activity.proofs.ProductLemmas.{ends-above, ends-below}
use Rattle.activity.proofs.both_of.Goals as goal

pub returns-then-coefficient-gt0-clause-least : goal.returns-then-coefficient-gt0-clause-least
returns-then-coefficient-gt0-clause-least c =
    let i : Interval = record { low = c.args.low; high = c.args.high } in
    let coefficient_fits : FitsSigned w64 c.args.coefficient = c.ranges.coefficient in
    let low_fits : FitsSigned w32 c.args.low = c.ranges.low in
    let sign : pos 0 <ℤ c.args.coefficient = omega (arith, ints, simp to_z-of_z at c.if-coefficient-gt0.true) in
    let part_fits : FitsSigned w64 c.product-at_low.result = omega (arith, ints, c.product-at_low.ensures.limit) in
    let value : c.product-at_low.result ≡ c.args.coefficient *ℤ c.args.low = simp to_z-of_z at c.product-at_low.ensures.value in
    simp to_z-of_z (value ∙ sym (ends-above c.args.coefficient i sign c.requires.occupied).least)

pub returns-then-coefficient-gt0-clause-most : goal.returns-then-coefficient-gt0-clause-most
returns-then-coefficient-gt0-clause-most c =
    let i : Interval = record { low = c.args.low; high = c.args.high } in
    let coefficient_fits : FitsSigned w64 c.args.coefficient = c.ranges.coefficient in
    let high_fits : FitsSigned w32 c.args.high = c.ranges.high in
    let sign : pos 0 <ℤ c.args.coefficient = omega (arith, ints, simp to_z-of_z at c.if-coefficient-gt0.true) in
    let part_fits : FitsSigned w64 c.product-at_high.result = omega (arith, ints, c.product-at_high.ensures.limit) in
    let value : c.product-at_high.result ≡ c.args.coefficient *ℤ c.args.high = simp to_z-of_z at c.product-at_high.ensures.value in
    simp to_z-of_z (value ∙ sym (ends-above c.args.coefficient i sign c.requires.occupied).greatest)

pub returns-else-coefficient-gt0-clause-least : goal.returns-else-coefficient-gt0-clause-least
returns-else-coefficient-gt0-clause-least c =
    let i : Interval = record { low = c.args.low; high = c.args.high } in
    let coefficient_fits : FitsSigned w64 c.args.coefficient = c.ranges.coefficient in
    let high_fits : FitsSigned w32 c.args.high = c.ranges.high in
    let sign : c.args.coefficient ≤ℤ pos 0 = omega (arith, ints, simp to_z-of_z at c.if-coefficient-gt0.false) in
    let part_fits : FitsSigned w64 c.product-at_high.result = omega (arith, ints, c.product-at_high.ensures.limit) in
    let value : c.product-at_high.result ≡ c.args.coefficient *ℤ c.args.high = simp to_z-of_z at c.product-at_high.ensures.value in
    simp to_z-of_z (value ∙ sym (ends-below c.args.coefficient i sign c.requires.occupied).least)

pub returns-else-coefficient-gt0-clause-most : goal.returns-else-coefficient-gt0-clause-most
returns-else-coefficient-gt0-clause-most c =
    let i : Interval = record { low = c.args.low; high = c.args.high } in
    let coefficient_fits : FitsSigned w64 c.args.coefficient = c.ranges.coefficient in
    let low_fits : FitsSigned w32 c.args.low = c.ranges.low in
    let sign : c.args.coefficient ≤ℤ pos 0 = omega (arith, ints, simp to_z-of_z at c.if-coefficient-gt0.false) in
    let part_fits : FitsSigned w64 c.product-at_low.result = omega (arith, ints, c.product-at_low.ensures.limit) in
    let value : c.product-at_low.result ≡ c.args.coefficient *ℤ c.args.low = simp to_z-of_z at c.product-at_low.ensures.value in
    simp to_z-of_z (value ∙ sym (ends-below c.args.coefficient i sign c.requires.occupied).greatest)
