use Rattle.std.proofs.Common.{rules, arith, FitsSigned, w32, w64, ◌≡◌, ◌∙◌, ap, ◌^◌, ◌≤◌, ℤ, ◌-ℤ◌, ◌*ℤ◌, unsigned_abs, to_z, of_z}
use Rattle.std.proofs.lemmas.Int.{ints, to_z-of_z}
use mir.Syntax.{w128}
use Rattle.int_model.specs.Boxes.{Interval}
use Rattle.int_model.specs.RowSums.{least_product}
use Rattle.dual_bounds.proofs.ProductLemmas.{wide-fits}
use Rattle.dual_search.proofs.reduced_costs.column_gain.Goals as goal

difference : (a b : ℤ) → unsigned_abs a ≤ 2 ^ 104 → unsigned_abs b ≤ 2 ^ 104 → to_z w128 (of_z w128 (to_z w128 (of_z w128 a) -ℤ to_z w128 (of_z w128 b))) ≡ a -ℤ b
difference a b ha hb =
    rw (to_z-of_z w128 a (wide-fits a (2 ^ 104) ha (omega arith)), to_z-of_z w128 b (wide-fits b (2 ^ 104) hb (omega arith)))
    (to_z-of_z w128 (a -ℤ b) (wide-fits (a -ℤ b) (2 ^ 105) (omega (arith, ints, ha, hb)) (omega arith)))

value_of : (z l h r : ℤ) → FitsSigned w128 z → FitsSigned w32 l → FitsSigned w32 h → r ≡ least_product (to_z w128 (of_z w128 z)) (record { low = to_z w32 (of_z w32 l); high = to_z w32 (of_z w32 h) }) → r ≡ least_product z (record { low = l; high = h })
value_of z l h r fz fl fh e = rw (to_z-of_z w128 z fz, to_z-of_z w32 l fl, to_z-of_z w32 h fh) at e

pub returns-clause-value : goal.returns-clause-value
returns-clause-value c =
    let i : Interval = record { low = c.args.low; high = c.args.high } in
    let low_fits : FitsSigned w32 c.args.low = search rules in
    let high_fits : FitsSigned w32 c.args.high = search rules in
    let step_fits : FitsSigned w64 c.args.step = search rules in
    let coefficient_fits : FitsSigned w64 c.args.coefficient = search rules in
    let cost_fits : FitsSigned w128 c.args.cost = search rules in
    let moved_fits : FitsSigned w128 c.moved.result = wide-fits c.moved.result (2 ^ 84) c.moved.ensures.limit (omega arith) in
    let moved : c.moved.result ≡ c.args.cost -ℤ c.args.step *ℤ c.args.coefficient = simp to_z-of_z at c.moved.ensures.value in
    let grown : c.least_product.result ≡ least_product c.moved.result i = value_of c.moved.result c.args.low c.args.high c.least_product.result moved_fits low_fits high_fits c.least_product.ensures.value in
    let before : c.least_product-2.result ≡ least_product c.args.cost i = value_of c.args.cost c.args.low c.args.high c.least_product-2.result cost_fits low_fits high_fits c.least_product-2.ensures.value in
    let after : c.least_product.result ≡ least_product (c.args.cost -ℤ c.args.step *ℤ c.args.coefficient) i = grown ∙ ap (λ (z : ℤ). least_product z i) moved in
    difference c.least_product.result c.least_product-2.result c.least_product.ensures.limit c.least_product-2.ensures.limit
    ∙ ap (λ (z : ℤ). z -ℤ c.least_product-2.result) after
    ∙ ap (λ (z : ℤ). least_product (c.args.cost -ℤ c.args.step *ℤ c.args.coefficient) i -ℤ z) before

pub returns-clause-limit : goal.returns-clause-limit
returns-clause-limit c =
    rw (difference c.least_product.result c.least_product-2.result c.least_product.ensures.limit c.least_product-2.ensures.limit)
    (omega (arith, ints, c.least_product.ensures.limit, c.least_product-2.ensures.limit))
