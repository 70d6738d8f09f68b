use Rattle.std.proofs.Common.{rules, arith, pos, ℕ, ℤ, ◌≤ℤ◌, get_or, FitsSigned, w64, w32}
use Rattle.std.proofs.lemmas.Int.{ints, to_z-of_z}
use Rattle.int_model.specs.RowSums.{least_product, greatest_product}
use Rattle.activity.proofs.SumLemmas.{term_at, few_terms, sum_of-more, ordered-at}
use Rattle.activity.proofs.SpreadLemmas.{products-ordered, spread-more}
use Rattle.activity.proofs.extremes.Goals as goal

pub bounds-low-column : goal.bounds-low-column
bounds-low-column c = (term_at 0 _ c.args.terms.now c.loop-column.column-index (0, pos 0) c.requires.summed.row c.loop-column-test.true).column

pub bounds-high-column : goal.bounds-high-column
bounds-high-column c =
    let t = term_at 0 _ c.args.terms.now c.loop-column.column-index (0, pos 0) c.requires.summed.row c.loop-column-test.true in
    omega (arith, t.column, c.requires.summed.sides)

pub both_of-low_part-requires-clause-coefficient : goal.both_of-low_part-requires-clause-coefficient
both_of-low_part-requires-clause-coefficient c =
    let t = term_at 0 _ c.args.terms.now c.loop-column.column-index (0, pos 0) c.requires.summed.row c.loop-column-test.true in
    omega (arith, ints, t.entry)

pub both_of-low_part-requires-clause-occupied : goal.both_of-low_part-requires-clause-occupied
both_of-low_part-requires-clause-occupied c =
    let term : ℕ × ℤ = get_or c.args.terms.now c.loop-column.column-index (0, pos 0) in
    let low_fits : FitsSigned w32 (get_or c.args.low.now term.0 (pos 0)) = search rules in
    let high_fits : FitsSigned w32 (get_or c.args.high.now term.0 (pos 0)) = search rules in
    simp to_z-of_z (ordered-at c.args.low.now c.args.high.now term.0 c.requires.summed.sides c.requires.occupied)

pub apart-spread-requires-clause-ordered : goal.apart-spread-requires-clause-ordered
apart-spread-requires-clause-ordered c =
    let term : ℕ × ℤ = get_or c.args.terms.now c.loop-column.column-index (0, pos 0) in
    let t = term_at 0 _ c.args.terms.now c.loop-column.column-index (0, pos 0) c.requires.summed.row c.loop-column-test.true in
    let entry_fits : FitsSigned w64 term.1 = omega (arith, ints, t.entry) in
    let low_fits : FitsSigned w32 (get_or c.args.low.now term.0 (pos 0)) = search rules in
    let high_fits : FitsSigned w32 (get_or c.args.high.now term.0 (pos 0)) = search rules in
    let least_fits : FitsSigned w64 c.both_of-low_part.result.0 = omega (arith, ints, c.both_of-low_part.ensures.least_limit) in
    let most_fits : FitsSigned w64 c.both_of-low_part.result.1 = omega (arith, ints, c.both_of-low_part.ensures.most_limit) in
    let least_value = simp to_z-of_z at c.both_of-low_part.ensures.least in
    let most_value = simp to_z-of_z at c.both_of-low_part.ensures.most in
    let ordered : c.both_of-low_part.result.0 ≤ℤ c.both_of-low_part.result.1 = omega (arith, ints, least_value, most_value, products-ordered term.1 (record { low = get_or c.args.low.now term.0 (pos 0); high = get_or c.args.high.now term.0 (pos 0) })) in
    simp to_z-of_z ordered

pub overflow_add-least : goal.overflow_add-least
overflow_add-least c = omega (arith, ints, few_terms 0 _ _ c.requires.summed.row (omega arith))

pub overflow_add-most : goal.overflow_add-most
overflow_add-most c = omega (arith, ints, few_terms 0 _ _ c.requires.summed.row (omega arith))

pub loop-column-preserved : goal.loop-column-preserved
loop-column-preserved c =
    let term : ℕ × ℤ = get_or c.args.terms.now c.loop-column.column-index (0, pos 0) in
    let t = term_at 0 _ c.args.terms.now c.loop-column.column-index (0, pos 0) c.requires.summed.row c.loop-column-test.true in
    let few = few_terms 0 _ _ c.requires.summed.row (omega arith) in
    let entry_fits : FitsSigned w64 term.1 = omega (arith, ints, t.entry) in
    let low_fits : FitsSigned w32 (get_or c.args.low.now term.0 (pos 0)) = search rules in
    let high_fits : FitsSigned w32 (get_or c.args.high.now term.0 (pos 0)) = search rules in
    let least_value = simp to_z-of_z at c.both_of-low_part.ensures.least in
    let most_value = simp to_z-of_z at c.both_of-low_part.ensures.most in
    let least_fits : FitsSigned w64 c.both_of-low_part.result.0 = omega (arith, ints, c.both_of-low_part.ensures.least_limit) in
    let most_fits : FitsSigned w64 c.both_of-low_part.result.1 = omega (arith, ints, c.both_of-low_part.ensures.most_limit) in
    let apart_value = simp to_z-of_z at c.apart-spread.ensures in
    record {
      least = sum_of-more least_product _ _ _ c.loop-column.column-index (0, pos 0) _ _ _ c.requires.summed.sides c.loop-column-test.true c.loop-column.invariant.least least_value (omega (arith, ints, few));
      most = sum_of-more greatest_product _ _ _ c.loop-column.column-index (0, pos 0) _ _ _ c.requires.summed.sides c.loop-column-test.true c.loop-column.invariant.most most_value (omega (arith, ints, few));
      least_limit = omega (arith, ints, few);
      most_limit = omega (arith, ints, few);
      spread = spread-more c.args.terms.now c.args.low.now c.args.high.now c.loop-column.column-index (0, pos 0) c.loop-column.spread c.apart-spread.result _ _ c.requires.summed.sides c.loop-column.invariant.spread least_value most_value apart_value;
    }

pub returns-clause-least_limit : goal.returns-clause-least_limit
returns-clause-least_limit c = omega (arith, ints, few_terms 0 _ _ c.requires.summed.row (omega arith))

pub returns-clause-most_limit : goal.returns-clause-most_limit
returns-clause-most_limit c = omega (arith, ints, few_terms 0 _ _ c.requires.summed.row (omega arith))
