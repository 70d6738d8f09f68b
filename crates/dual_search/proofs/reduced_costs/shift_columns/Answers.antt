use Rattle.std.proofs.Common.{arith, ◌<◌, length, ◌≡◌, ◌∙◌, ℕ, ℤ, pos, ◌+◌, ◌*◌, ◌^◌, ◌-ℤ◌, ◌*ℤ◌, ◌≤◌, unsigned_abs, slice_index_or, FitsSigned, w64, add-one, of_z, to_z}
use Rattle.std.proofs.lemmas.Int.{ints, to_z-of_z}
use mir.Syntax.{w128}
use Rattle.dual_bounds.proofs.ProductLemmas.{wide-fits, product-limit}
use Rattle.dual_search.proofs.TermLemmas.{term-at, shift-step, shift-end, limit-set}
use Rattle.dual_search.proofs.reduced_costs.shift_columns.Goals as goal

pub bounds-costs-place : goal.bounds-costs-place
bounds-costs-place c =
    let t = term-at 0 _ c.args.terms.now c.loop-column.column-index (0, pos 0) c.requires.terms c.loop-column-test.true in
    omega (arith, t.column)

pub slice_copy_out-moved : goal.slice_copy_out-moved
slice_copy_out-moved c =
    let t = term-at 0 _ c.args.terms.now c.loop-column.column-index (0, pos 0) c.requires.terms c.loop-column-test.true in
    omega (arith, t.column, c.loop-column.auto.costs)

pub moved-requires-clause-cost : goal.moved-requires-clause-cost
moved-requires-clause-cost c =
    let i : ℕ = (slice_index_or c.args.terms.now c.loop-column.column-index (0, pos 0)).0 in
    let small : unsigned_abs (slice_index_or c.loop-column.costs i (pos 0)) ≤ 2 ^ 83 = omega (arith, c.loop-column.invariant.limit i, c.requires.few, c.loop-column-test.true) in
    rw (to_z-of_z w128 _ (wide-fits _ _ small (omega arith))) small

pub moved-requires-clause-coefficient : goal.moved-requires-clause-coefficient
moved-requires-clause-coefficient c =
    let t = term-at 0 _ c.args.terms.now c.loop-column.column-index (0, pos 0) c.requires.terms c.loop-column-test.true in
    let fits : FitsSigned w64 (slice_index_or c.args.terms.now c.loop-column.column-index (0, pos 0)).1 = omega (arith, ints, t.entry) in
    rw (to_z-of_z w64 _ fits) t.entry

-- a moved cost, as the code has it
moved_of : (q a s m : ℤ) → FitsSigned w128 q → FitsSigned w64 a → m ≡ to_z w128 (of_z w128 q) -ℤ s *ℤ to_z w64 (of_z w64 a) → m ≡ q -ℤ s *ℤ a
moved_of q a s m fq fa e = rw (to_z-of_z w128 q fq, to_z-of_z w64 a fa) at e

pub loop-column-preserved : goal.loop-column-preserved
loop-column-preserved c =
    let term : ℕ × ℤ = slice_index_or c.args.terms.now c.loop-column.column-index (0, pos 0) in
    let t = term-at 0 _ c.args.terms.now c.loop-column.column-index (0, pos 0) c.requires.terms c.loop-column-test.true in
    let inside : term.0 < length c.loop-column.costs = omega (arith, t.column, c.loop-column.auto.costs) in
    let step : ℤ = to_z w64 (of_z w64 c.args.step) in
    let step_fits : FitsSigned w64 c.args.step = c.ranges.step in
    let step_small : unsigned_abs step ≤ 2 ^ 41 = rw (to_z-of_z w64 c.args.step step_fits) c.requires.step in
    let small : unsigned_abs (slice_index_or c.loop-column.costs term.0 (pos 0)) ≤ 2 ^ 80 + 2 ^ 71 * c.loop-column.column-index = c.loop-column.invariant.limit term.0 in
    let cost_fits : FitsSigned w128 (slice_index_or c.loop-column.costs term.0 (pos 0)) = wide-fits _ (2 ^ 83) (omega (arith, small, c.requires.few, c.loop-column-test.true)) (omega arith) in
    let coefficient_fits : FitsSigned w64 term.1 = omega (arith, ints, t.entry) in
    let moved_fits : FitsSigned w128 c.moved.result = wide-fits _ (2 ^ 84) c.moved.ensures.limit (omega arith) in
    let kept : to_z w128 (of_z w128 c.moved.result) ≡ c.moved.result = to_z-of_z w128 c.moved.result moved_fits in
    let plain : c.moved.result ≡ slice_index_or c.loop-column.costs term.0 (pos 0) -ℤ step *ℤ term.1 = moved_of _ _ _ _ cost_fits coefficient_fits c.moved.ensures.value in
    let is : to_z w128 (of_z w128 c.moved.result) ≡ slice_index_or c.loop-column.costs term.0 (pos 0) -ℤ step *ℤ term.1 = kept ∙ plain in
    let product : unsigned_abs (step *ℤ term.1) ≤ 2 ^ 41 * 10 ^ 9 = product-limit step term.1 (2 ^ 41) (10 ^ 9) step_small t.entry in
    let set_small : unsigned_abs (to_z w128 (of_z w128 c.moved.result)) ≤ 2 ^ 80 + 2 ^ 71 * (c.loop-column.column-index + 1) = rw is (omega (arith, ints, small, product)) in
    record {
      values = λ j. rw add-one (shift-step step c.args.terms.now c.loop-column.column-index (0, pos 0) c.loop-column.costs _ _ j c.loop-column-test.true inside (c.loop-column.invariant.values j) is);
      limit = limit-set c.loop-column.costs term.0 _ (2 ^ 80 + 2 ^ 71 * c.loop-column.column-index) (2 ^ 80 + 2 ^ 71 * (c.loop-column.column-index + 1)) inside (omega arith) c.loop-column.invariant.limit set_small;
    }

pub returns : goal.returns
returns c j =
    let step_fits : FitsSigned w64 c.args.step = c.ranges.step in
    let before = rw (to_z-of_z w64 c.args.step step_fits) at (c.loop-column.invariant.values j) in
    shift-end c.args.step c.args.terms.now c.loop-column.column-index j _ _ c.loop-column-test.false before
