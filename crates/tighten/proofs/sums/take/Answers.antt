use Rattle.std.proofs.Common.{arith, ◌≡◌, ◌∙◌, ap, sym, subst, ℤ, ℕ, pos, [], FitsSigned, w64}
use Rattle.std.specs.Prelude.{slice_index_or}
use Rattle.std.proofs.lemmas.Int.{ints, to_z-of_z}
use Rattle.int_model.specs.Boxes.{Box, box_of}
use Rattle.int_model.specs.Programs.{Terms}
use Rattle.int_model.specs.RowSums.{least_sum, greatest_sum}
use Rattle.activity.specs.Sums.{SpreadWithin}
use Rattle.tighten.specs.Steps.{rows_of}
use Rattle.tighten.proofs.StepLemmas.{sides-of, terms-at}
use Rattle.tighten.proofs.SumLists.{filled}
use Rattle.tighten.proofs.sums.take.Goals as goal

pub extremes-low_sum-requires-clause-occupied : goal.extremes-low_sum-requires-clause-occupied
extremes-low_sum-requires-clause-occupied c = rw (c.lows-lows.ensures.value, c.highs-highs.ensures.value, sides-of) c.requires.occupied

pub loop-row-preserved : goal.loop-row-preserved
loop-row-preserved c =
    let rows = rows_of c.args.model.now in
    let box : box_of c.lows-lows.result.now c.highs-highs.result.now ≡ c.args.bounds.now = rw (c.lows-lows.ensures.value, c.highs-highs.ensures.value) (sides-of c.args.bounds.now) in
    let terms : slice_index_or (rows_of c.args.model.now) c.loop-row.row [] ≡ c.as_slice.result.now = terms-at c.args.model.now.rows c.loop-row.row c.row.result.now c.row.ensures.value ∙ sym c.as_slice.ensures in
    let least_fits : FitsSigned w64 c.extremes-low_sum.result.0 = omega (arith, ints, c.extremes-low_sum.ensures.least_limit) in
    let most_fits : FitsSigned w64 c.extremes-low_sum.result.1 = omega (arith, ints, c.extremes-low_sum.ensures.most_limit) in
    let least : c.extremes-low_sum.result.0 ≡ least_sum (slice_index_or (rows_of c.args.model.now) c.loop-row.row []) c.args.bounds.now =
    c.extremes-low_sum.ensures.least ∙ ap (λ (b : Box). least_sum c.as_slice.result.now b) box ∙ ap (λ (ts : Terms). least_sum ts c.args.bounds.now) (sym terms) in
    let most : c.extremes-low_sum.result.1 ≡ greatest_sum (slice_index_or (rows_of c.args.model.now) c.loop-row.row []) c.args.bounds.now =
    c.extremes-low_sum.ensures.most ∙ ap (λ (b : Box). greatest_sum c.as_slice.result.now b) box ∙ ap (λ (ts : Terms). greatest_sum ts c.args.bounds.now) (sym terms) in
    let spread : SpreadWithin c.extremes-low_sum.result.2 (slice_index_or (rows_of c.args.model.now) c.loop-row.row []) c.args.bounds.now =
    subst (λ (ts : Terms). SpreadWithin c.extremes-low_sum.result.2 ts c.args.bounds.now) (sym terms) (subst (SpreadWithin c.extremes-low_sum.result.2 c.as_slice.result.now) box c.extremes-low_sum.ensures.spread) in
    simp to_z-of_z (record {
      least = filled (pos 0) (λ (i : ℕ) (z : ℤ). z ≡ least_sum (slice_index_or (rows_of c.args.model.now) i []) c.args.bounds.now) c.loop-row.least c.loop-row.row c.extremes-low_sum.result.0 (omega arith) c.loop-row.invariant.least least;
      most = filled (pos 0) (λ (i : ℕ) (z : ℤ). z ≡ greatest_sum (slice_index_or (rows_of c.args.model.now) i []) c.args.bounds.now) c.loop-row.most c.loop-row.row c.extremes-low_sum.result.1 (omega arith) c.loop-row.invariant.most most;
      spread = filled 0 (λ (i : ℕ) (w : ℕ). SpreadWithin w (slice_index_or (rows_of c.args.model.now) i []) c.args.bounds.now) c.loop-row.spread c.loop-row.row c.extremes-low_sum.result.2 (omega arith) c.loop-row.invariant.spread spread;
    })
