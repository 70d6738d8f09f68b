use Rattle.std.proofs.Common.{arith, ◌≡◌, ◌∙◌, ◌+ℤ◌, ◌≤◌, ◌*◌, ◌^◌, ap, ℤ, pos, ℕ, unsigned_abs, take, FitsSigned, w64}
use Rattle.std.specs.Prelude.{slice_index_or}
use Rattle.std.proofs.lemmas.List.{take_all}
use Rattle.std.proofs.lemmas.Int.{ints, to_z-of_z}
use Rattle.int_model.specs.Programs.{Terms}
use Rattle.int_model.specs.RowSums.{coefficient}
use Rattle.activity.proofs.SumLemmas.{term_at}
use Rattle.tighten.specs.Sums.{change}
use Rattle.tighten.proofs.SumLists.{shift-step, unmoved}
use Rattle.tighten.proofs.sums.shift.Goals as goal

fits_sum : (x y : ℤ) → unsigned_abs x ≤ 10 ^ 18 → unsigned_abs y ≤ 2 * 10 ^ 15 → FitsSigned w64 (x +ℤ y)
fits_sum x y h k = omega (arith, ints, h, k)

pub changed-requires-clause-coefficient : goal.changed-requires-clause-coefficient
changed-requires-clause-coefficient c =
    let term : ℕ × ℤ = slice_index_or c.args.terms.now c.loop-row.row-index (0, pos 0) in
    let t = term_at 0 _ c.args.terms.now c.loop-row.row-index (0, pos 0) c.requires.rows c.loop-row-test.true in
    let fits : FitsSigned w64 term.1 = omega (arith, ints, t.entry) in
    simp to_z-of_z t.entry

pub changed-requires-in-loop-row-clause-coefficient : goal.changed-requires-in-loop-row-clause-coefficient
changed-requires-in-loop-row-clause-coefficient c =
    let term : ℕ × ℤ = slice_index_or c.args.terms.now c.loop-row.row-index (0, pos 0) in
    let t = term_at 0 _ c.args.terms.now c.loop-row.row-index (0, pos 0) c.requires.rows c.loop-row-test.true in
    let fits : FitsSigned w64 term.1 = omega (arith, ints, t.entry) in
    simp to_z-of_z t.entry

pub slice_copy_out-least : goal.slice_copy_out-least
slice_copy_out-least c =
    let t = term_at 0 _ c.args.terms.now c.loop-row.row-index (0, pos 0) c.requires.rows c.loop-row-test.true in
    omega (arith, t.column)

pub bounds-least-row : goal.bounds-least-row
bounds-least-row c =
    let t = term_at 0 _ c.args.terms.now c.loop-row.row-index (0, pos 0) c.requires.rows c.loop-row-test.true in
    omega (arith, t.column)

pub slice_copy_out-most : goal.slice_copy_out-most
slice_copy_out-most c =
    let t = term_at 0 _ c.args.terms.now c.loop-row.row-index (0, pos 0) c.requires.rows c.loop-row-test.true in
    omega (arith, t.column)

pub bounds-most-row : goal.bounds-most-row
bounds-most-row c =
    let t = term_at 0 _ c.args.terms.now c.loop-row.row-index (0, pos 0) c.requires.rows c.loop-row-test.true in
    omega (arith, t.column)

pub overflow_add-least : goal.overflow_add-least
overflow_add-least c =
    let low_fits : FitsSigned w64 c.args.low_change = c.ranges.low_change in
    let high_fits : FitsSigned w64 c.args.high_change = c.ranges.high_change in
    let inv_least = simp to_z-of_z at c.loop-row.invariant.least in
    let term : ℕ × ℤ = slice_index_or c.args.terms.now c.loop-row.row-index (0, pos 0) in
    let least_same = unmoved c.args.low_change c.args.high_change _ c.args.terms.now c.loop-row.row-index (0, pos 0) (slice_index_or c.loop-row.least term.0 (pos 0)) (slice_index_or c.args.least.now term.0 (pos 0)) c.requires.rows c.loop-row-test.true (inv_least term.0) in
    let least_small : unsigned_abs (slice_index_or c.loop-row.least term.0 (pos 0)) ≤ 10 ^ 18 = rw least_same (c.requires.least term.0) in
    let least_fits : FitsSigned w64 (slice_index_or c.loop-row.least term.0 (pos 0)) = omega (arith, ints, least_small) in
    let change_fits : FitsSigned w64 c.changed.result = omega (arith, ints, c.changed.ensures.limit) in
    simp to_z-of_z (fits_sum (slice_index_or c.loop-row.least (slice_index_or c.args.terms.now c.loop-row.row-index (0, pos 0)).0 (pos 0)) c.changed.result least_small c.changed.ensures.limit)

pub overflow_add-most : goal.overflow_add-most
overflow_add-most c =
    let low_fits : FitsSigned w64 c.args.low_change = c.ranges.low_change in
    let high_fits : FitsSigned w64 c.args.high_change = c.ranges.high_change in
    let inv_most = simp to_z-of_z at c.loop-row.invariant.most in
    let term : ℕ × ℤ = slice_index_or c.args.terms.now c.loop-row.row-index (0, pos 0) in
    let most_same = unmoved c.args.high_change c.args.low_change _ c.args.terms.now c.loop-row.row-index (0, pos 0) (slice_index_or c.loop-row.most term.0 (pos 0)) (slice_index_or c.args.most.now term.0 (pos 0)) c.requires.rows c.loop-row-test.true (inv_most term.0) in
    let most_small : unsigned_abs (slice_index_or c.loop-row.most term.0 (pos 0)) ≤ 10 ^ 18 = rw most_same (c.requires.most term.0) in
    let most_fits : FitsSigned w64 (slice_index_or c.loop-row.most term.0 (pos 0)) = omega (arith, ints, most_small) in
    let change_fits : FitsSigned w64 c.changed-in-loop-row.result = omega (arith, ints, c.changed-in-loop-row.ensures.limit) in
    simp to_z-of_z (fits_sum (slice_index_or c.loop-row.most (slice_index_or c.args.terms.now c.loop-row.row-index (0, pos 0)).0 (pos 0)) c.changed-in-loop-row.result most_small c.changed-in-loop-row.ensures.limit)

pub loop-row-preserved : goal.loop-row-preserved
loop-row-preserved c =
    let low_fits : FitsSigned w64 c.args.low_change = c.ranges.low_change in
    let high_fits : FitsSigned w64 c.args.high_change = c.ranges.high_change in
    let inv_least = simp to_z-of_z at c.loop-row.invariant.least in
    let inv_most = simp to_z-of_z at c.loop-row.invariant.most in
    let term : ℕ × ℤ = slice_index_or c.args.terms.now c.loop-row.row-index (0, pos 0) in
    let t = term_at 0 _ c.args.terms.now c.loop-row.row-index (0, pos 0) c.requires.rows c.loop-row-test.true in
    let entry_fits : FitsSigned w64 term.1 = omega (arith, ints, t.entry) in
    let least_same = unmoved c.args.low_change c.args.high_change _ c.args.terms.now c.loop-row.row-index (0, pos 0) (slice_index_or c.loop-row.least term.0 (pos 0)) (slice_index_or c.args.least.now term.0 (pos 0)) c.requires.rows c.loop-row-test.true (inv_least term.0) in
    let least_small : unsigned_abs (slice_index_or c.loop-row.least term.0 (pos 0)) ≤ 10 ^ 18 = rw least_same (c.requires.least term.0) in
    let least_fits : FitsSigned w64 (slice_index_or c.loop-row.least term.0 (pos 0)) = omega (arith, ints, least_small) in
    let most_same = unmoved c.args.high_change c.args.low_change _ c.args.terms.now c.loop-row.row-index (0, pos 0) (slice_index_or c.loop-row.most term.0 (pos 0)) (slice_index_or c.args.most.now term.0 (pos 0)) c.requires.rows c.loop-row-test.true (inv_most term.0) in
    let most_small : unsigned_abs (slice_index_or c.loop-row.most term.0 (pos 0)) ≤ 10 ^ 18 = rw most_same (c.requires.most term.0) in
    let most_fits : FitsSigned w64 (slice_index_or c.loop-row.most term.0 (pos 0)) = omega (arith, ints, most_small) in
    let least_change_fits : FitsSigned w64 c.changed.result = omega (arith, ints, c.changed.ensures.limit) in
    let most_change_fits : FitsSigned w64 c.changed-in-loop-row.result = omega (arith, ints, c.changed-in-loop-row.ensures.limit) in
    let least_sum_fits : FitsSigned w64 ((slice_index_or c.loop-row.least (slice_index_or c.args.terms.now c.loop-row.row-index (0, pos 0)).0 (pos 0)) +ℤ c.changed.result) = fits_sum (slice_index_or c.loop-row.least (slice_index_or c.args.terms.now c.loop-row.row-index (0, pos 0)).0 (pos 0)) c.changed.result least_small c.changed.ensures.limit in
    let most_sum_fits : FitsSigned w64 ((slice_index_or c.loop-row.most (slice_index_or c.args.terms.now c.loop-row.row-index (0, pos 0)).0 (pos 0)) +ℤ c.changed-in-loop-row.result) = fits_sum (slice_index_or c.loop-row.most (slice_index_or c.args.terms.now c.loop-row.row-index (0, pos 0)).0 (pos 0)) c.changed-in-loop-row.result most_small c.changed-in-loop-row.ensures.limit in
    let least_value : c.changed.result ≡ change c.args.low_change c.args.high_change term.1 = simp to_z-of_z at c.changed.ensures.value in
    let most_value : c.changed-in-loop-row.result ≡ change c.args.high_change c.args.low_change term.1 = simp to_z-of_z at c.changed-in-loop-row.ensures.value in
    simp to_z-of_z (record {
      least = shift-step c.args.low_change c.args.high_change _ c.args.terms.now c.loop-row.row-index (0, pos 0) c.args.least.now c.loop-row.least _ c.requires.rows c.loop-row-test.true (omega (arith, t.column)) inv_least (ap (λ (z : ℤ). slice_index_or c.loop-row.least term.0 (pos 0) +ℤ z) least_value);
      most = shift-step c.args.high_change c.args.low_change _ c.args.terms.now c.loop-row.row-index (0, pos 0) c.args.most.now c.loop-row.most _ c.requires.rows c.loop-row-test.true (omega (arith, t.column)) inv_most (ap (λ (z : ℤ). slice_index_or c.loop-row.most term.0 (pos 0) +ℤ z) most_value);
    })

pub returns-clause-least : goal.returns-clause-least
returns-clause-least c i =
    let low_fits : FitsSigned w64 c.args.low_change = c.ranges.low_change in
    let high_fits : FitsSigned w64 c.args.high_change = c.ranges.high_change in
    let inv_least = simp to_z-of_z at c.loop-row.invariant.least in
    let whole : take c.loop-row.row-index c.args.terms.now ≡ c.args.terms.now = take_all _ _ (omega arith) in
    inv_least i ∙ ap (λ (ts : Terms). slice_index_or c.args.least.now i (pos 0) +ℤ change c.args.low_change c.args.high_change (coefficient i ts)) whole

pub returns-clause-most : goal.returns-clause-most
returns-clause-most c i =
    let low_fits : FitsSigned w64 c.args.low_change = c.ranges.low_change in
    let high_fits : FitsSigned w64 c.args.high_change = c.ranges.high_change in
    let inv_most = simp to_z-of_z at c.loop-row.invariant.most in
    let whole : take c.loop-row.row-index c.args.terms.now ≡ c.args.terms.now = take_all _ _ (omega arith) in
    inv_most i ∙ ap (λ (ts : Terms). slice_index_or c.args.most.now i (pos 0) +ℤ change c.args.high_change c.args.low_change (coefficient i ts)) whole
