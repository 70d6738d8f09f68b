use Rattle.std.proofs.Common.{rules, arith, pos, ℕ, ℤ, get_or, FitsSigned, w64, w32}
use Rattle.std.proofs.lemmas.Int.{ints, to_z-of_z}
use Rattle.int_model.specs.RowSums.{least_product, greatest_product}
use Rattle.activity.proofs.SumLemmas.{term_at, few_terms, sum_of-more}
use Rattle.activity.proofs.sums.Goals as goal

pub bounds-low-column : goal.bounds-low-column
bounds-low-column c = (term_at 0 _ c.args.terms.now c.loop-column.column-index (0, pos 0) c.requires.row c.loop-column-test.true).column

pub bounds-high-column : goal.bounds-high-column
bounds-high-column c =
    let t = term_at 0 _ c.args.terms.now c.loop-column.column-index (0, pos 0) c.requires.row c.loop-column-test.true in
    omega (arith, t.column, c.requires.sides)

pub least_of-least-requires-clause-coefficient : goal.least_of-least-requires-clause-coefficient
least_of-least-requires-clause-coefficient c =
    let t = term_at 0 _ c.args.terms.now c.loop-column.column-index (0, pos 0) c.requires.row c.loop-column-test.true in
    omega (arith, ints, t.entry)

pub greatest_of-most-requires-clause-coefficient : goal.greatest_of-most-requires-clause-coefficient
greatest_of-most-requires-clause-coefficient c =
    let t = term_at 0 _ c.args.terms.now c.loop-column.column-index (0, pos 0) c.requires.row c.loop-column-test.true in
    omega (arith, ints, t.entry)

pub overflow_add-least : goal.overflow_add-least
overflow_add-least c = omega (arith, ints, few_terms 0 _ _ c.requires.row (omega arith))

pub overflow_add-most : goal.overflow_add-most
overflow_add-most c = omega (arith, ints, few_terms 0 _ _ c.requires.row (omega arith))

pub loop-column-preserved : goal.loop-column-preserved
loop-column-preserved c =
    let term : ℕ × ℤ = get_or c.args.terms.now c.loop-column.column-index (0, pos 0) in
    let t = term_at 0 _ c.args.terms.now c.loop-column.column-index (0, pos 0) c.requires.row c.loop-column-test.true in
    let few = few_terms 0 _ _ c.requires.row (omega arith) in
    let entry_fits : FitsSigned w64 term.1 = omega (arith, ints, t.entry) in
    let low_fits : FitsSigned w32 (get_or c.args.low.now term.0 (pos 0)) = search rules in
    let high_fits : FitsSigned w32 (get_or c.args.high.now term.0 (pos 0)) = search rules in
    let least_value = simp to_z-of_z at c.least_of-least.ensures.value in
    let most_value = simp to_z-of_z at c.greatest_of-most.ensures.value in
    record {
      least = sum_of-more least_product _ _ _ c.loop-column.column-index (0, pos 0) _ _ _ c.requires.sides c.loop-column-test.true c.loop-column.invariant.least least_value (omega (arith, ints, few));
      most = sum_of-more greatest_product _ _ _ c.loop-column.column-index (0, pos 0) _ _ _ c.requires.sides c.loop-column-test.true c.loop-column.invariant.most most_value (omega (arith, ints, few));
      least_limit = omega (arith, ints, few);
      most_limit = omega (arith, ints, few);
    }

pub returns-clause-least_limit : goal.returns-clause-least_limit
returns-clause-least_limit c = omega (arith, ints, few_terms 0 _ _ c.requires.row (omega arith))

pub returns-clause-most_limit : goal.returns-clause-most_limit
returns-clause-most_limit c = omega (arith, ints, few_terms 0 _ _ c.requires.row (omega arith))
