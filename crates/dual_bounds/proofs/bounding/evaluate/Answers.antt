use Rattle.std.proofs.Common.{rules, arith, ◌≡◌, ◌∙◌, ap, ℕ, ℤ, pos, List, ◌<◌, ◌*ℤ◌, ◌-ℤ◌, length, slice_index_or, FitsSigned, w64, w32, add-one}
use Rattle.std.proofs.lemmas.Int.{ints, to_z-of_z}
use mir.Syntax.{w128}
use Rattle.int_model.specs.Boxes.{Interval, interval_at}
use Rattle.int_model.specs.Programs.{Terms}
use Rattle.int_model.specs.RowSums.{least_product}
use Rattle.dual_bounds.specs.Vectors.{Entry, counted, reduced_cost, rows_of}
use Rattle.dual_bounds.specs.Vectors as spec
use Rattle.dual_bounds.proofs.ShareLemmas.{zero-at}
use Rattle.dual_bounds.proofs.SumLemmas.{least-more, ends-of}
use Rattle.dual_bounds.proofs.bounding.evaluate.Goals as goal

pub take-requires-clause-zero : goal.take-requires-clause-zero
take-requires-clause-zero c = zero-at 1000

pub loop-j-preserved : goal.loop-j-preserved
loop-j-preserved c =
    let rows : List Terms = rows_of c.args.model.now in
    let es : List Entry = counted c.args.ends.now c.args.vector.now.entries in
    let cost : ℤ = slice_index_or c.args.costs.now c.loop-j.j (pos 0) in
    let cost_fits : FitsSigned w64 cost = search rules in
    let low_fits : FitsSigned w32 (slice_index_or c.lows-lows.result.now c.loop-j.j (pos 0)) = search rules in
    let high_fits : FitsSigned w32 (slice_index_or c.highs-highs.result.now c.loop-j.j (pos 0)) = search rules in
    let share : ℤ = slice_index_or c.take.new.shares c.loop-j.j (pos 0) in
    let share_fits : FitsSigned w128 share = omega (arith, ints, c.take.ensures.limit c.loop-j.j) in
    let reduced_fits : FitsSigned w128 c.reduced_cost-reduced.result = omega (arith, ints, c.reduced_cost-reduced.ensures.limit) in
    let few : length c.args.costs.now < 1001 = omega (arith, c.requires.costs, c.columns-columns.ensures.limits.few_columns) in
    let in_rows : share ≡ spec.share rows es c.loop-j.j = c.take.ensures.value c.loop-j.j ∙ ap (λ (xs : List Entry). spec.share rows (counted c.args.ends.now xs) c.loop-j.j) c.entries-entries.ensures.value in
    let raw_reduced : c.reduced_cost-reduced.result ≡ pos c.scale-scale.result *ℤ cost -ℤ share = simp to_z-of_z at c.reduced_cost-reduced.ensures.value in
    let raw_value : c.least_product-sum.result ≡ least_product c.reduced_cost-reduced.result (record { low = slice_index_or c.lows-lows.result.now c.loop-j.j (pos 0); high = slice_index_or c.highs-highs.result.now c.loop-j.j (pos 0) }) = simp to_z-of_z at c.least_product-sum.ensures.value in
    let reduced : c.reduced_cost-reduced.result ≡ reduced_cost rows c.args.vector.now.scale es c.loop-j.j cost = raw_reduced ∙ ap (λ (n : ℕ). pos n *ℤ cost -ℤ share) c.scale-scale.ensures.value ∙ ap (λ (z : ℤ). pos c.args.vector.now.scale *ℤ cost -ℤ z) in_rows in
    let value : c.least_product-sum.result ≡ least_product (reduced_cost rows c.args.vector.now.scale es c.loop-j.j cost) (interval_at c.args.bounds.now c.loop-j.j) = raw_value ∙ ap (λ (i : Interval). least_product c.reduced_cost-reduced.result i) (ends-of c.args.bounds.now c.lows-lows.result.now c.highs-highs.result.now c.loop-j.j c.lows-lows.ensures.value c.highs-highs.ensures.value) ∙ ap (λ (z : ℤ). least_product z (interval_at c.args.bounds.now c.loop-j.j)) reduced in
    rw add-one (record {
      so_far = least-more rows c.args.vector.now.scale es c.args.costs.now c.args.bounds.now c.loop-j.j _ _ _ _ c.loop-j-test.true (omega (arith, c.loop-j-test.true, c.requires.costs, c.requires.columns)) c.loop-j.invariant.so_far value (omega (arith, ints, few, c.loop-j-test.true));
      limit = omega (arith, ints, few, c.loop-j-test.true);
    })
