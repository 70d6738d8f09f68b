use Rattle.std.proofs.Common.{arith, pos, get_or, FitsSigned, w64}
use Rattle.std.proofs.lemmas.Int.{ints, to_z-of_z}
use Rattle.scenario_changes.proofs.SumLemmas.{term_at, few_terms}
use Rattle.branching.proofs.weight.coefficient_sum.Goals as goal

pub overflow_add-sum : goal.overflow_add-sum
overflow_add-sum c =
    let limits = c.column_terms-coefficient-items.ensures.limits in
    let t = term_at 0 _ _ c.loop-coefficient.coefficient-index (0, pos 0) limits c.loop-coefficient-test.true in
    let few = few_terms 0 _ _ limits (omega arith) in
    let fits : FitsSigned w64 (get_or c.column_terms-coefficient-items.result.now c.loop-coefficient.coefficient-index (0, pos 0)).1 = omega (arith, ints, t.entry) in
    let value = simp to_z-of_z at c.unsigned_abs-sum.ensures.value in
    omega (arith, ints, t.entry, few, value, c.rows-rows.ensures.limits.few_rows, c.loop-coefficient.invariant, c.loop-coefficient-test.true)

pub loop-coefficient-preserved : goal.loop-coefficient-preserved
loop-coefficient-preserved c =
    let limits = c.column_terms-coefficient-items.ensures.limits in
    let t = term_at 0 _ _ c.loop-coefficient.coefficient-index (0, pos 0) limits c.loop-coefficient-test.true in
    let fits : FitsSigned w64 (get_or c.column_terms-coefficient-items.result.now c.loop-coefficient.coefficient-index (0, pos 0)).1 = omega (arith, ints, t.entry) in
    let value = simp to_z-of_z at c.unsigned_abs-sum.ensures.value in
    omega (arith, ints, t.entry, value, c.loop-coefficient.invariant)

pub returns : goal.returns
returns c =
    let few = few_terms 0 _ _ c.column_terms-coefficient-items.ensures.limits (omega arith) in
    omega (arith, few, c.rows-rows.ensures.limits.few_rows, c.loop-coefficient.invariant, c.loop-coefficient.auto.coefficient-index-end)
