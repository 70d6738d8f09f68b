use Rattle.std.proofs.Common.{rules, arith, ◌≡◌, ◌∙◌, ap, sym, ℤ, pos, ◌*ℤ◌, FitsSigned, w64, add-one, Option, Some}
use Rattle.std.specs.Prelude.{slice_index_or, unwrap_or}
use Rattle.std.proofs.lemmas.Int.{ints, to_z-of_z}
use Rattle.dual_bounds.specs.Vectors.{Entry, side}
use Rattle.dual_bounds.proofs.EntryLemmas.{entry-at, row-at, end-more}
use Rattle.dual_bounds.proofs.SharedLaws.{ends-more}
use Rattle.dual_bounds.proofs.shared.whole_end_sum.Goals as goal

pub side-requires : goal.side-requires
side-requires c = row-at _ c.args.entries.now c.loop-row.row-index (0, pos 0) c.requires.rows c.loop-row-test.true

pub end_times-sum-requires : goal.end_times-sum-requires
end_times-sum-requires c =
    let at = entry-at 0 c.args.entries.now c.loop-row.row-index (0, pos 0) c.requires.entries c.loop-row-test.true in
    omega (arith, ints, at.multiplier)

pub loop-row-preserved : goal.loop-row-preserved
loop-row-preserved c =
    let e : Entry = slice_index_or c.args.entries.now c.loop-row.row-index (0, pos 0) in
    let at = entry-at 0 c.args.entries.now c.loop-row.row-index (0, pos 0) c.requires.entries c.loop-row-test.true in
    let fits : FitsSigned w64 e.1 = omega (arith, ints, at.multiplier) in
    let end_fits : FitsSigned w64 c.in_ok-end.end = search rules in
    let seen = simp to_z-of_z at c.in_ok-end.ensures in
    let here : side c.args.ends.now e ≡ Some c.in_ok-end.end = sym seen in
    let product : c.end_times-sum.result ≡ e.1 *ℤ c.in_ok-end.end = simp to_z-of_z at c.end_times-sum.ensures.value in
    let value : c.end_times-sum.result ≡ e.1 *ℤ unwrap_or (side c.args.ends.now e) (pos 0) = product ∙ ap (λ (o : Option ℤ). e.1 *ℤ unwrap_or o (pos 0)) (sym here) in
    rw add-one (record {
      all = ends-more c.args.ends.now c.args.entries.now c.loop-row.row-index (0, pos 0) c.in_ok-end.end c.loop-row-test.true c.loop-row.invariant.all here;
      so_far = end-more c.args.ends.now c.args.entries.now c.loop-row.row-index (0, pos 0) _ _ _ _ c.loop-row-test.true c.loop-row.invariant.so_far value (omega (arith, ints, c.requires.few, c.loop-row-test.true));
      limit = omega (arith, ints, c.requires.few, c.loop-row-test.true);
    })
