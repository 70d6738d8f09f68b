use Rattle.std.proofs.Common.{arith, ap, pos, length}
use Rattle.int_model.specs.Models.{IntegerModel}
use Rattle.scenario_changes.proofs.SumLemmas.{term_at}
use Rattle.dive.proofs.moves.Moves.broken_count.Goals as goal

pub bounds-ends-row : goal.bounds-ends-row
bounds-ends-row c =
    let t = term_at 0 _ c.column_terms-row-items.result.now c.loop-row.row-index (0, pos 0) c.column_terms-row-items.ensures.limits c.loop-row-test.true in
    omega (arith, t.column, c.ends-ends.ensures.count, ap (λ (m : IntegerModel). length m.rows) c.model-model.ensures)

pub index-requires : goal.index-requires
index-requires c =
    let t = term_at 0 _ c.column_terms-row-items.result.now c.loop-row.row-index (0, pos 0) c.column_terms-row-items.ensures.limits c.loop-row-test.true in
    omega (arith, t.column, c.requires.moves.sums, ap (λ (m : IntegerModel). length m.rows) c.model-model.ensures)
