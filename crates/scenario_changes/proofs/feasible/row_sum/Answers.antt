use Rattle.std.proofs.Common.{rules, arith, pos, ℕ, ℤ, get_or, FitsSigned, w64, w32}
use Rattle.std.proofs.lemmas.Int.{ints, to_z-of_z}
use Rattle.scenario_changes.proofs.SumLemmas.{term_at, few_terms, row_sum-more}
use Rattle.scenario_changes.proofs.feasible.row_sum.Goals as goal

pub bounds-x-column : goal.bounds-x-column
bounds-x-column c = (term_at 0 _ c.args.terms.now c.loop-column.column-index (0, pos 0) c.requires.terms c.loop-column-test.true).column

pub product-sum-requires-clause-coefficient : goal.product-sum-requires-clause-coefficient
product-sum-requires-clause-coefficient c =
    let t = term_at 0 _ c.args.terms.now c.loop-column.column-index (0, pos 0) c.requires.terms c.loop-column-test.true in
    omega (arith, ints, t.entry)

pub overflow_add-sum : goal.overflow_add-sum
overflow_add-sum c = omega (arith, ints, few_terms 0 _ _ c.requires.terms (omega arith))

pub loop-column-preserved : goal.loop-column-preserved
loop-column-preserved c =
    let term : ℕ × ℤ = get_or c.args.terms.now c.loop-column.column-index (0, pos 0) in
    let t = term_at 0 _ c.args.terms.now c.loop-column.column-index (0, pos 0) c.requires.terms c.loop-column-test.true in
    let few = few_terms 0 _ _ c.requires.terms (omega arith) in
    let entry_fits : FitsSigned w64 term.1 = omega (arith, ints, t.entry) in
    let number_fits : FitsSigned w32 (get_or c.args.x.now term.0 (pos 0)) = search rules in
    let value = simp to_z-of_z at c.product-sum.ensures.value in
    record {
      so_far = row_sum-more _ _ c.loop-column.column-index (0, pos 0) _ _ _ c.loop-column-test.true c.loop-column.invariant.so_far value (omega (arith, ints, few));
      limit = omega (arith, ints, few);
    }

pub returns-clause-limit : goal.returns-clause-limit
returns-clause-limit c = omega (arith, ints, few_terms 0 _ _ c.requires.terms (omega arith))
