use Rattle.std.proofs.Common.{arith, rules, ◌≡◌, ◌∙◌, ap, sym, [], pos, ◌+ℤ◌, ◌-ℤ◌, length, slice_index_or, refl, FitsSigned, w64, w32}
use Rattle.std.proofs.lemmas.Int.{ints, to_z-of_z}
use Rattle.int_model.specs.RowSums.{coefficient}
use Rattle.tighten.specs.Cuts.{interval}
use Rattle.tighten.specs.Steps.{rows_of}
use Rattle.tighten.proofs.EndSumLemmas.{step-facts, step-left, moved-sum, applied-same, applied-less, applied-empty}
use Rattle.tighten.proofs.StepLemmas.{terms-at}
use Rattle.tighten.proofs.tightening.apply_by.Goals as goal

pub left_by-requires-clause-sum : goal.left_by-requires-clause-sum
left_by-requires-clause-sum c =
    let facts = step-facts c.args.model.now c.args.step.now c.args.bounds.now c.lows.result.now c.highs.result.now c.args.sum c.columns-columns.ensures.limits c.requires.step c.requires.columns c.requires.occupied c.lows.ensures.value c.highs.ensures.value c.lows.ensures.bounds c.highs.ensures.bounds c.requires.sum in
    let sum_fits : FitsSigned w64 c.args.sum = c.ranges.sum in
    simp to_z-of_z facts.limit

pub left_by-requires-clause-occupied : goal.left_by-requires-clause-occupied
left_by-requires-clause-occupied c =
    let facts = step-facts c.args.model.now c.args.step.now c.args.bounds.now c.lows.result.now c.highs.result.now c.args.sum c.columns-columns.ensures.limits c.requires.step c.requires.columns c.requires.occupied c.lows.ensures.value c.highs.ensures.value c.lows.ensures.bounds c.highs.ensures.bounds c.requires.sum in
    let sum_fits : FitsSigned w64 c.args.sum = c.ranges.sum in
    let low_fits : FitsSigned w32 (slice_index_or c.lows.result.now c.args.step.now.column (pos 0)) = omega (arith, ints, facts.low_small) in
    let high_fits : FitsSigned w32 (slice_index_or c.highs.result.now c.args.step.now.column (pos 0)) = omega (arith, ints, facts.high_small) in
    simp to_z-of_z facts.ordered

pub overflow_sub-others : goal.overflow_sub-others
overflow_sub-others c =
    let facts = step-facts c.args.model.now c.args.step.now c.args.bounds.now c.lows.result.now c.highs.result.now c.args.sum c.columns-columns.ensures.limits c.requires.step c.requires.columns c.requires.occupied c.lows.ensures.value c.highs.ensures.value c.lows.ensures.bounds c.highs.ensures.bounds c.requires.sum in
    let sum_fits : FitsSigned w64 c.args.sum = c.ranges.sum in
    let before_fits : FitsSigned w64 c.end_product.result = omega (arith, ints, c.end_product.ensures.limit) in
    let fits : FitsSigned w64 (c.args.sum -ℤ c.end_product.result) = omega (arith, ints, facts.limit, c.end_product.ensures.limit) in
    simp to_z-of_z fits

pub overflow_add-result : goal.overflow_add-result
overflow_add-result c =
    let facts = step-facts c.args.model.now c.args.step.now c.args.bounds.now c.lows.result.now c.highs.result.now c.args.sum c.columns-columns.ensures.limits c.requires.step c.requires.columns c.requires.occupied c.lows.ensures.value c.highs.ensures.value c.lows.ensures.bounds c.highs.ensures.bounds c.requires.sum in
    let sum_fits : FitsSigned w64 c.args.sum = c.ranges.sum in
    let before_fits : FitsSigned w64 c.end_product.result = omega (arith, ints, c.end_product.ensures.limit) in
    let after_fits : FitsSigned w64 c.end_product-in-Less.result = omega (arith, ints, c.end_product-in-Less.ensures.limit) in
    let others_fits : FitsSigned w64 (c.args.sum -ℤ c.end_product.result) = omega (arith, ints, facts.limit, c.end_product.ensures.limit) in
    let fits : FitsSigned w64 (c.args.sum -ℤ c.end_product.result +ℤ c.end_product-in-Less.result) = omega (arith, ints, facts.limit, c.end_product.ensures.limit, c.end_product-in-Less.ensures.limit) in
    simp to_z-of_z fits

pub returns-in-Same : goal.returns-in-Same
returns-in-Same c =
    let facts = step-facts c.args.model.now c.args.step.now c.args.bounds.now c.lows.result.now c.highs.result.now c.args.sum c.columns-columns.ensures.limits c.requires.step c.requires.columns c.requires.occupied c.lows.ensures.value c.highs.ensures.value c.lows.ensures.bounds c.highs.ensures.bounds c.requires.sum in
    let sum_fits : FitsSigned w64 c.args.sum = c.ranges.sum in
    let low_fits : FitsSigned w32 (slice_index_or c.lows.result.now c.args.step.now.column (pos 0)) = omega (arith, ints, facts.low_small) in
    let high_fits : FitsSigned w32 (slice_index_or c.highs.result.now c.args.step.now.column (pos 0)) = omega (arith, ints, facts.high_small) in
    let own_fits : FitsSigned w64 c.coefficient-own.result = omega (arith, ints, c.coefficient-own.ensures.limit) in
    let terms : slice_index_or (rows_of c.args.model.now) c.args.step.now.row [] ≡ c.as_slice.result.now = terms-at c.args.model.now.rows c.args.step.now.row c.row.result.now c.row.ensures.value ∙ sym c.as_slice.ensures in
    let own : c.coefficient-own.result ≡ coefficient c.args.step.now.column (slice_index_or (rows_of c.args.model.now) c.args.step.now.row []) = c.coefficient-own.ensures.value ∙ ap (coefficient c.args.step.now.column) (sym terms) in
    let same = step-left c.args.model.now c.args.ends.now c.args.step.now c.args.bounds.now c.args.sum _ _ c.coefficient-own.result facts own c.requires.sum in
    let left = simp to_z-of_z at c.in-Same.ensures in
    simp to_z-of_z (applied-same (rows_of c.args.model.now) c.args.ends.now c.args.step.now c.args.bounds.now c.args.sum c.requires.occupied (sym same ∙ left ∙ sym facts.at) c.requires.sum)

pub returns-in-Empty : goal.returns-in-Empty
returns-in-Empty c =
    let facts = step-facts c.args.model.now c.args.step.now c.args.bounds.now c.lows.result.now c.highs.result.now c.args.sum c.columns-columns.ensures.limits c.requires.step c.requires.columns c.requires.occupied c.lows.ensures.value c.highs.ensures.value c.lows.ensures.bounds c.highs.ensures.bounds c.requires.sum in
    let sum_fits : FitsSigned w64 c.args.sum = c.ranges.sum in
    let low_fits : FitsSigned w32 (slice_index_or c.lows.result.now c.args.step.now.column (pos 0)) = omega (arith, ints, facts.low_small) in
    let high_fits : FitsSigned w32 (slice_index_or c.highs.result.now c.args.step.now.column (pos 0)) = omega (arith, ints, facts.high_small) in
    let own_fits : FitsSigned w64 c.coefficient-own.result = omega (arith, ints, c.coefficient-own.ensures.limit) in
    let terms : slice_index_or (rows_of c.args.model.now) c.args.step.now.row [] ≡ c.as_slice.result.now = terms-at c.args.model.now.rows c.args.step.now.row c.row.result.now c.row.ensures.value ∙ sym c.as_slice.ensures in
    let own : c.coefficient-own.result ≡ coefficient c.args.step.now.column (slice_index_or (rows_of c.args.model.now) c.args.step.now.row []) = c.coefficient-own.ensures.value ∙ ap (coefficient c.args.step.now.column) (sym terms) in
    let same = step-left c.args.model.now c.args.ends.now c.args.step.now c.args.bounds.now c.args.sum _ _ c.coefficient-own.result facts own c.requires.sum in
    let left = simp to_z-of_z at c.in-Empty.ensures in
    applied-empty (rows_of c.args.model.now) c.args.ends.now c.args.step.now c.args.bounds.now (rw (sym same) left)

pub returns-in-Less : goal.returns-in-Less
returns-in-Less c =
    let facts = step-facts c.args.model.now c.args.step.now c.args.bounds.now c.lows.result.now c.highs.result.now c.args.sum c.columns-columns.ensures.limits c.requires.step c.requires.columns c.requires.occupied c.lows.ensures.value c.highs.ensures.value c.lows.ensures.bounds c.highs.ensures.bounds c.requires.sum in
    let sum_fits : FitsSigned w64 c.args.sum = c.ranges.sum in
    let low_fits : FitsSigned w32 (slice_index_or c.lows.result.now c.args.step.now.column (pos 0)) = omega (arith, ints, facts.low_small) in
    let high_fits : FitsSigned w32 (slice_index_or c.highs.result.now c.args.step.now.column (pos 0)) = omega (arith, ints, facts.high_small) in
    let own_fits : FitsSigned w64 c.coefficient-own.result = omega (arith, ints, c.coefficient-own.ensures.limit) in
    let terms : slice_index_or (rows_of c.args.model.now) c.args.step.now.row [] ≡ c.as_slice.result.now = terms-at c.args.model.now.rows c.args.step.now.row c.row.result.now c.row.ensures.value ∙ sym c.as_slice.ensures in
    let own : c.coefficient-own.result ≡ coefficient c.args.step.now.column (slice_index_or (rows_of c.args.model.now) c.args.step.now.row []) = c.coefficient-own.ensures.value ∙ ap (coefficient c.args.step.now.column) (sym terms) in
    let same = step-left c.args.model.now c.args.ends.now c.args.step.now c.args.bounds.now c.args.sum _ _ c.coefficient-own.result facts own c.requires.sum in
    let first_fits : FitsSigned w32 c.in-Less.first = search rules in
    let last_fits : FitsSigned w32 c.in-Less.last = search rules in
    let before_fits : FitsSigned w64 c.end_product.result = omega (arith, ints, c.end_product.ensures.limit) in
    let after_fits : FitsSigned w64 c.end_product-in-Less.result = omega (arith, ints, c.end_product-in-Less.ensures.limit) in
    let others_fits : FitsSigned w64 (c.args.sum -ℤ c.end_product.result) = omega (arith, ints, facts.limit, c.end_product.ensures.limit) in
    let fits : FitsSigned w64 (c.args.sum -ℤ c.end_product.result +ℤ c.end_product-in-Less.result) = omega (arith, ints, facts.limit, c.end_product.ensures.limit, c.end_product-in-Less.ensures.limit) in
    let left = simp to_z-of_z at c.in-Less.ensures in
    let set = simp to_z-of_z at c.set.ensures in
    let before = simp to_z-of_z at c.end_product.ensures.value in
    let after = simp to_z-of_z at c.end_product-in-Less.ensures.value in
    let moved = moved-sum (length c.args.model.now.columns) (slice_index_or (rows_of c.args.model.now) c.args.step.now.row []) c.args.step.now.side c.args.step.now.column c.args.bounds.now _ (interval c.in-Less.first c.in-Less.last) c.coefficient-own.result c.args.sum c.end_product.result c.end_product-in-Less.result (c.args.sum -ℤ c.end_product.result +ℤ c.end_product-in-Less.result) facts.terms facts.inside facts.at own c.requires.sum before after refl in
    simp to_z-of_z (applied-less (rows_of c.args.model.now) c.args.ends.now c.args.step.now c.args.bounds.now c.set.new.self _ c.in-Less.first c.in-Less.last (sym same ∙ left.0) left.2 set moved)
