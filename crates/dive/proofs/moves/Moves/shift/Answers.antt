use Rattle.std.proofs.Common.{arith, pos}
use Rattle.scenario_changes.proofs.SumLemmas.{term_at}
use Rattle.dive.proofs.moves.Moves.shift.Goals as goal

pub index-requires-in-loop-row : goal.index-requires-in-loop-row
index-requires-in-loop-row c =
    let t = term_at 0 _ c.column_terms-row-items.result.now c.loop-row.row-index (0, pos 0) c.column_terms-row-items.ensures.limits c.loop-row-test.true in
    omega (arith, t.column, c.loop-row.invariant.sums)

pub index_mut-requires-in-loop-row : goal.index_mut-requires-in-loop-row
index_mut-requires-in-loop-row c =
    let t = term_at 0 _ c.column_terms-row-items.result.now c.loop-row.row-index (0, pos 0) c.column_terms-row-items.ensures.limits c.loop-row-test.true in
    omega (arith, t.column, c.loop-row.invariant.sums)
