use Rattle.std.proofs.Common.{rules, arith, ◌≡◌, ◌∙◌, ap, ℤ, pos, ◌*ℤ◌, ◌-ℤ◌, ◌^◌, slice_index_or, FitsSigned, w64, w32, add-one}
use Rattle.std.proofs.lemmas.Int.{ints, to_z-of_z}
use Rattle.int_model.specs.Boxes.{Interval, interval_at}
use Rattle.int_model.specs.RowSums.{least_product}
use Rattle.dual_bounds.proofs.SharedLaws.{cost-at, shared-more}
use Rattle.dual_bounds.proofs.SumLemmas.{ends-of}
use Rattle.dual_bounds.proofs.shared.least_shared.Goals as goal

pub least_product-sum-requires-clause-cost : goal.least_product-sum-requires-clause-cost
least_product-sum-requires-clause-cost c =
    let small = cost-at (10 ^ 9) c.args.costs.now c.loop-j.j c.requires.costs c.loop-j-test.true in
    let fits : FitsSigned w64 (slice_index_or c.args.costs.now c.loop-j.j (pos 0)) = omega (arith, ints, small) in
    simp to_z-of_z small

pub loop-j-preserved : goal.loop-j-preserved
loop-j-preserved c =
    let cost : ℤ = slice_index_or c.args.costs.now c.loop-j.j (pos 0) in
    let share : ℤ = slice_index_or c.args.shares.now c.loop-j.j (pos 0) in
    let cost_fits : FitsSigned w64 cost = omega (arith, ints, cost-at (10 ^ 9) c.args.costs.now c.loop-j.j c.requires.costs c.loop-j-test.true) in
    let share_fits : FitsSigned w64 share = omega (arith, ints, c.requires.small c.loop-j.j) in
    let low_fits : FitsSigned w32 (slice_index_or c.lows-lows.result.now c.loop-j.j (pos 0)) = search rules in
    let high_fits : FitsSigned w32 (slice_index_or c.highs-highs.result.now c.loop-j.j (pos 0)) = search rules in
    let raw_value : c.least_product-sum.result ≡ least_product (pos c.args.scale *ℤ cost -ℤ share) (record { low = slice_index_or c.lows-lows.result.now c.loop-j.j (pos 0); high = slice_index_or c.highs-highs.result.now c.loop-j.j (pos 0) }) = simp to_z-of_z at c.least_product-sum.ensures.value in
    let value : c.least_product-sum.result ≡ least_product (pos c.args.scale *ℤ cost -ℤ share) (interval_at c.args.bounds.now c.loop-j.j) = raw_value ∙ ap (λ (i : Interval). least_product (pos c.args.scale *ℤ cost -ℤ share) i) (ends-of c.args.bounds.now c.lows-lows.result.now c.highs-highs.result.now c.loop-j.j c.lows-lows.ensures.value c.highs-highs.ensures.value) in
    rw add-one (record {
      so_far = shared-more c.args.scale c.args.shares.now c.args.costs.now c.args.bounds.now c.loop-j.j _ _ _ _ c.loop-j-test.true (omega (arith, c.loop-j-test.true, c.requires.columns)) c.loop-j.invariant.so_far value (omega (arith, ints, c.requires.few, c.loop-j-test.true));
      limit = omega (arith, ints, c.requires.few, c.loop-j-test.true);
    })
