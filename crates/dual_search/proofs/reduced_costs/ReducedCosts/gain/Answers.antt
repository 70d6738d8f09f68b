use Rattle.std.proofs.Common.{rules, arith, ◌≡◌, ◌∙◌, ap, ℕ, ℤ, ◌^◌, ◌+ℤ◌, ◌-ℤ◌, ◌≤◌, List, unsigned_abs, FitsSigned, w64, of_z, to_z}
use Rattle.std.proofs.lemmas.Int.{ints, to_z-of_z}
use mir.Syntax.{w128}
use Rattle.int_model.specs.Integers.{int_sum_by}
use Rattle.int_model.specs.declared.model.Ends.{Ends}
use Rattle.dual_bounds.specs.Counting.{counting}
use Rattle.dual_bounds.proofs.ProductLemmas.{wide-fits}
use Rattle.dual_search.specs.Gains.{column_gain, end_product}
use Rattle.dual_search.proofs.reduced_costs.ReducedCosts.gain.Goals as goal

difference : (a b : ℤ) → unsigned_abs a ≤ 2 ^ 103 → unsigned_abs b ≤ 2 ^ 103 → to_z w128 (of_z w128 (to_z w128 (of_z w128 a) -ℤ to_z w128 (of_z w128 b))) ≡ a -ℤ b
difference a b ha hb =
    rw (to_z-of_z w128 a (wide-fits a (2 ^ 103) ha (omega arith)), to_z-of_z w128 b (wide-fits b (2 ^ 103) hb (omega arith)))
    (to_z-of_z w128 (a -ℤ b) (wide-fits (a -ℤ b) (2 ^ 104) (omega (arith, ints, ha, hb)) (omega arith)))

sum : (a b g : ℤ) → unsigned_abs a ≤ 2 ^ 103 → unsigned_abs b ≤ 2 ^ 103 → unsigned_abs g ≤ 2 ^ 115 → to_z w128 (of_z w128 (to_z w128 (of_z w128 a) -ℤ to_z w128 (of_z w128 b))) +ℤ to_z w128 (of_z w128 g) ≡ (a -ℤ b) +ℤ g
sum a b g ha hb hg = rw (difference a b ha hb, to_z-of_z w128 g (wide-fits g (2 ^ 115) hg (omega arith))) (omega (arith, ints))

sum_fits : (a b g : ℤ) → unsigned_abs a ≤ 2 ^ 103 → unsigned_abs b ≤ 2 ^ 103 → unsigned_abs g ≤ 2 ^ 115 → FitsSigned w128 ((a -ℤ b) +ℤ g)
sum_fits a b g ha hb hg = wide-fits ((a -ℤ b) +ℤ g) (2 ^ 116) (omega (arith, ints, ha, hb, hg)) (omega arith)

pub overflow_add-result : goal.overflow_add-result
overflow_add-result c =
    rw (sum c.end_product.result c.end_product-2.result c.columns_gain.result c.end_product.ensures.limit c.end_product-2.ensures.limit c.columns_gain.ensures.limit)
    (sum_fits c.end_product.result c.end_product-2.result c.columns_gain.result c.end_product.ensures.limit c.end_product-2.ensures.limit c.columns_gain.ensures.limit)

product_of : (ends : List Ends) (row : ℕ) (y r : ℤ) → FitsSigned w64 y → r ≡ end_product ends (row, to_z w64 (of_z w64 y)) → r ≡ end_product ends (row, y)
product_of ends row y r f e = rw (to_z-of_z w64 y f) at e

step_of : (ends : List Ends) (row : ℕ) (y z r : ℤ) → FitsSigned w64 y → FitsSigned w64 z → r ≡ counting ends (row, to_z w64 (of_z w64 y)) -ℤ counting ends (row, to_z w64 (of_z w64 z)) → r ≡ counting ends (row, y) -ℤ counting ends (row, z)
step_of ends row y z r f g e = rw (to_z-of_z w64 y f, to_z-of_z w64 z g) at e

pub returns-clause-value : goal.returns-clause-value
returns-clause-value c =
    let ends = c.args.ends.now in
    let row = c.args.row in
    let from_fits : FitsSigned w64 c.args.from = c.ranges.from in
    let to_fits : FitsSigned w64 c.args.to = c.ranges.to in
    let step_fits : FitsSigned w64 c.counting_step-step.result = omega (arith, ints, c.counting_step-step.ensures.limit) in
    let step : c.counting_step-step.result ≡ counting ends (row, c.args.to) -ℤ counting ends (row, c.args.from) = step_of ends row _ _ _ to_fits from_fits c.counting_step-step.ensures.value in
    let costs : c.deref.result.now ≡ c.args.self.now.costs.items = search rules in
    let after : c.end_product.result ≡ end_product ends (row, c.args.to) = product_of ends row _ _ to_fits c.end_product.ensures.value in
    let before : c.end_product-2.result ≡ end_product ends (row, c.args.from) = product_of ends row _ _ from_fits c.end_product-2.ensures.value in
    let columns : c.columns_gain.result ≡ int_sum_by (column_gain (to_z w64 (of_z w64 c.counting_step-step.result)) c.deref.result.now c.args.bounds.now) c.args.terms.now = c.columns_gain.ensures.value in
    let same_step : to_z w64 (of_z w64 c.counting_step-step.result) ≡ counting ends (row, c.args.to) -ℤ counting ends (row, c.args.from) = to_z-of_z w64 _ step_fits ∙ step in
    rw (sum c.end_product.result c.end_product-2.result c.columns_gain.result c.end_product.ensures.limit c.end_product-2.ensures.limit c.columns_gain.ensures.limit)
    (to_z-of_z w128 _ (sum_fits c.end_product.result c.end_product-2.result c.columns_gain.result c.end_product.ensures.limit c.end_product-2.ensures.limit c.columns_gain.ensures.limit)
    ∙ ap (λ (z : ℤ). (z -ℤ c.end_product-2.result) +ℤ c.columns_gain.result) after
    ∙ ap (λ (z : ℤ). (end_product ends (row, c.args.to) -ℤ z) +ℤ c.columns_gain.result) before
    ∙ ap (λ (z : ℤ). (end_product ends (row, c.args.to) -ℤ end_product ends (row, c.args.from)) +ℤ z) (columns
    ∙ ap (λ (z : ℤ). int_sum_by (column_gain z c.deref.result.now c.args.bounds.now) c.args.terms.now) same_step
    ∙ ap (λ (l : List ℤ). int_sum_by (column_gain (counting ends (row, c.args.to) -ℤ counting ends (row, c.args.from)) l c.args.bounds.now) c.args.terms.now) costs))

pub returns-clause-limit : goal.returns-clause-limit
returns-clause-limit c =
    rw (sum c.end_product.result c.end_product-2.result c.columns_gain.result c.end_product.ensures.limit c.end_product-2.ensures.limit c.columns_gain.ensures.limit, to_z-of_z w128 ((c.end_product.result -ℤ c.end_product-2.result) +ℤ c.columns_gain.result) (sum_fits c.end_product.result c.end_product-2.result c.columns_gain.result c.end_product.ensures.limit c.end_product-2.ensures.limit c.columns_gain.ensures.limit))
    (omega (arith, ints, c.end_product.ensures.limit, c.end_product-2.ensures.limit, c.columns_gain.ensures.limit))
