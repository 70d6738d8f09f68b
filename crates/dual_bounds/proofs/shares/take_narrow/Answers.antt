use Rattle.std.proofs.Common.{arith, ◌≡◌, ◌∙◌, sym, pos, [], length, FitsSigned, w64, add-one}
use Rattle.std.specs.Prelude.{slice_index_or}
use Rattle.std.proofs.lemmas.Int.{ints, to_z-of_z}
use Rattle.dual_bounds.specs.Vectors.{Entry, rows_of}
use Rattle.dual_bounds.proofs.EntryLemmas.{entry-at, row-at}
use Rattle.dual_bounds.proofs.ShareLemmas.{share-more_all, terms-in, terms-of}
use Rattle.dual_bounds.proofs.shares.take_narrow.Goals as goal

pub row-requires : goal.row-requires
row-requires c = row-at _ c.args.entries.now c.loop-row.row-index (0, pos 0) c.requires.rows c.loop-row-test.true

pub add_narrow-requires-clause-terms : goal.add_narrow-requires-clause-terms
add_narrow-requires-clause-terms c =
    terms-in 0 (length c.args.model.now.columns) _ c.as_slice.result.now (rw c.as_slice.ensures c.row.ensures.limits.terms) (omega (arith, c.requires.columns, c.loop-row.invariant.len))

pub add_narrow-requires-clause-multiplier : goal.add_narrow-requires-clause-multiplier
add_narrow-requires-clause-multiplier c =
    let at = entry-at 0 c.args.entries.now c.loop-row.row-index (0, pos 0) c.requires.entries c.loop-row-test.true in
    omega (arith, ints, at.multiplier)

pub loop-row-preserved : goal.loop-row-preserved
loop-row-preserved c =
    let e : Entry = slice_index_or c.args.entries.now c.loop-row.row-index (0, pos 0) in
    let at = entry-at 0 c.args.entries.now c.loop-row.row-index (0, pos 0) c.requires.entries c.loop-row-test.true in
    let fits : FitsSigned w64 e.1 = omega (arith, ints, at.multiplier) in
    let value = simp to_z-of_z at (c.add_narrow.ensures.value c.if-not-add_narrow.false) in
    let row : slice_index_or (rows_of c.args.model.now) e.0 [] ≡ c.as_slice.result.now = terms-of c.args.model.now.rows e.0 c.row.result.now c.row.ensures.value ∙ sym c.as_slice.ensures in
    rw add-one (record {
      value = λ j. share-more_all (rows_of c.args.model.now) c.args.entries.now c.loop-row.row-index (0, pos 0) c.as_slice.result.now j c.loop-row.shares c.add_narrow.new.shares c.loop-row-test.true row (c.loop-row.invariant.value j) (value j);
      small = c.add_narrow.ensures.small;
      len = c.add_narrow.ensures.len ∙ c.loop-row.invariant.len;
    })
