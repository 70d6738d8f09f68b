use Rattle.std.proofs.Common.{rules, arith, ◌≡◌, pos, ◌<◌, ◌≤◌, ◌^◌, length, slice_index_or, unsigned_abs, FitsSigned, w64, w32, add-one}
use Rattle.std.proofs.lemmas.Int.{ints, to_z-of_z}
use Rattle.int_model.specs.RowSums.{least_product}
use Rattle.scenario_changes.proofs.SumLemmas.{cost_at}
use Rattle.certs.proofs.StartLemmas.{least-more}
use Rattle.certs.proofs.start.least_cost.Goals as goal

pub least_of-sum-requires-clause-coefficient : goal.least_of-sum-requires-clause-coefficient
least_of-sum-requires-clause-coefficient c =
    let small = cost_at (10 ^ 9) c.args.costs.now c.loop-j.j (pos 0) c.requires.costs c.loop-j-test.true in
    omega (arith, ints, small)

pub loop-j-preserved : goal.loop-j-preserved
loop-j-preserved c =
    let small : unsigned_abs (slice_index_or c.args.costs.now c.loop-j.j (pos 0)) ≤ 10 ^ 9 = cost_at (10 ^ 9) c.args.costs.now c.loop-j.j (pos 0) c.requires.costs c.loop-j-test.true in
    let in_lows : c.loop-j.j < length c.args.lows.now = omega arith in
    let in_highs : c.loop-j.j < length c.args.highs.now = omega arith in
    let cost_fits : FitsSigned w64 (slice_index_or c.args.costs.now c.loop-j.j (pos 0)) = omega (arith, ints, small) in
    let low_fits : FitsSigned w32 (slice_index_or c.args.lows.now c.loop-j.j (pos 0)) = search rules in
    let high_fits : FitsSigned w32 (slice_index_or c.args.highs.now c.loop-j.j (pos 0)) = search rules in
    let value : c.least_of-sum.result ≡ least_product (slice_index_or c.args.costs.now c.loop-j.j (pos 0)) (record { low = slice_index_or c.args.lows.now c.loop-j.j (pos 0); high = slice_index_or c.args.highs.now c.loop-j.j (pos 0) }) = simp to_z-of_z at c.least_of-sum.ensures.value in
    rw add-one (record {
      so_far = least-more c.args.costs.now c.args.lows.now c.args.highs.now c.loop-j.j _ _ _ _ c.loop-j-test.true in_lows in_highs c.loop-j.invariant.so_far value (omega (arith, ints));
      limit = omega (arith, ints);
    })
