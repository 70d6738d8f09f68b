use Rattle.std.proofs.Common.{rules, arith, ◌≡◌, ◌∙◌, ap, ℕ, ℤ, ◌++◌, ◌-ℤ◌, ◌*ℤ◌, List, length, take, drop, FitsSigned, w64, of_z, to_z}
use Rattle.std.proofs.lemmas.Int.{ints, to_z-of_z}
use Rattle.std.proofs.lemmas.List.{with_items_is}
use Rattle.int_model.specs.Integers.{int_at}
use Rattle.int_model.specs.RowSums.{coefficient}
use Rattle.int_model.specs.declared.model.Ends.{Ends}
use Rattle.dual_bounds.specs.Counting.{counting}
use Rattle.dual_search.proofs.reduced_costs.ReducedCosts.shift.Goals as goal

step_of : (ends : List Ends) (row : ℕ) (y z r : ℤ) → FitsSigned w64 y → FitsSigned w64 z → r ≡ counting ends (row, to_z w64 (of_z w64 y)) -ℤ counting ends (row, to_z w64 (of_z w64 z)) → r ≡ counting ends (row, y) -ℤ counting ends (row, z)
step_of ends row y z r f g e = rw (to_z-of_z w64 y f, to_z-of_z w64 z g) at e

pub returns-clause-values : goal.returns-clause-values
returns-clause-values c j =
    let ends = c.args.ends.now in
    let row = c.args.row in
    let costs = c.args.self.now.costs in
    let step_fits : FitsSigned w64 c.counting_step-step.result = omega (arith, ints, c.counting_step-step.ensures.limit) in
    let step : c.counting_step-step.result ≡ counting ends (row, c.args.to) -ℤ counting ends (row, c.args.from) = step_of ends row _ _ _ c.ranges.to c.ranges.from c.counting_step-step.ensures.value in
    let before : c.deref_mut.result.now ≡ costs.items = search rules in
    let count : length c.shift_columns.new.costs ≡ costs.len = search rules in
    let whole : take costs.len (c.shift_columns.new.costs ++ drop (length c.shift_columns.new.costs) costs.items) ≡ c.shift_columns.new.costs = with_items_is costs c.shift_columns.new.costs count in
    let same_step : to_z w64 (of_z w64 c.counting_step-step.result) ≡ counting ends (row, c.args.to) -ℤ counting ends (row, c.args.from) = to_z-of_z w64 _ step_fits ∙ step in
    let shifted : int_at c.shift_columns.new.costs j ≡ int_at c.deref_mut.result.now j -ℤ to_z w64 (of_z w64 c.counting_step-step.result) *ℤ coefficient j c.args.terms.now = c.shift_columns.ensures j in
    ap (λ (l : List ℤ). int_at l j) whole
    ∙ shifted
    ∙ ap (λ (l : List ℤ). int_at l j -ℤ to_z w64 (of_z w64 c.counting_step-step.result) *ℤ coefficient j c.args.terms.now) before
    ∙ ap (λ (z : ℤ). int_at costs.items j -ℤ z *ℤ coefficient j c.args.terms.now) same_step
