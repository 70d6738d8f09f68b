use Rattle.std.proofs.Common.{arith, ◌≡◌, pos, ◌*ℤ◌, slice_index_or, FitsSigned, w64, add-one}
use Rattle.std.specs.Prelude.{unwrap_or}
use Rattle.std.proofs.lemmas.Int.{ints, to_z-of_z}
use Rattle.dual_bounds.specs.Vectors.{Entry, side}
use Rattle.dual_bounds.proofs.EntryLemmas.{entry-at, row-at, end-more}
use Rattle.dual_bounds.proofs.parts.end_sum.Goals as goal

pub end_product-sum-requires-clause-row : goal.end_product-sum-requires-clause-row
end_product-sum-requires-clause-row c = row-at _ c.args.entries.now c.loop-row.row-index (0, pos 0) c.requires.rows c.loop-row-test.true

pub end_product-sum-requires-clause-multiplier : goal.end_product-sum-requires-clause-multiplier
end_product-sum-requires-clause-multiplier c =
    let at = entry-at 0 c.args.entries.now c.loop-row.row-index (0, pos 0) c.requires.entries c.loop-row-test.true in
    omega (arith, ints, at.multiplier)

pub loop-row-preserved : goal.loop-row-preserved
loop-row-preserved c =
    let e : Entry = slice_index_or c.args.entries.now c.loop-row.row-index (0, pos 0) in
    let at = entry-at 0 c.args.entries.now c.loop-row.row-index (0, pos 0) c.requires.entries c.loop-row-test.true in
    let fits : FitsSigned w64 e.1 = omega (arith, ints, at.multiplier) in
    let value : c.end_product-sum.result ≡ e.1 *ℤ unwrap_or (side c.args.ends.now e) (pos 0) = simp to_z-of_z at c.end_product-sum.ensures.value in
    rw add-one (record {
      so_far = end-more c.args.ends.now c.args.entries.now c.loop-row.row-index (0, pos 0) _ _ _ _ c.loop-row-test.true c.loop-row.invariant.so_far value (omega (arith, ints, c.requires.few, c.loop-row-test.true));
      limit = omega (arith, ints, c.requires.few, c.loop-row-test.true);
    })
