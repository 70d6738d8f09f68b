use Rattle.std.proofs.Common.{rules, arith, ◌≡◌, ◌∙◌, ap, ℕ, pos, ◌+◌, ◌*ℤ◌, ◌^◌, ◌++◌, [], ◌∷◌, length, slice_index_or, FitsSigned, w64, of_z, to_z}
use Rattle.std.proofs.lemmas.Int.{ints, to_z-of_z}
use Rattle.std.proofs.lemmas.List.{length_push}
use mir.Syntax.{w128}
use Rattle.int_model.specs.Integers.{int_at}
use Rattle.dual_search.proofs.TermLemmas.{cost-within, pushed}
use Rattle.dual_search.proofs.reduced_costs.ReducedCosts.new.Goals as goal

pub scaled-requires : goal.scaled-requires
scaled-requires c =
    let small = cost-within (10 ^ 9) c.args.costs.now c.loop-cost.cost-index c.requires c.loop-cost-test.true in
    let fits : FitsSigned w64 (slice_index_or c.args.costs.now c.loop-cost.cost-index (pos 0)) = omega (arith, ints, small) in
    rw (to_z-of_z w64 _ fits) small

pub loop-cost-preserved : goal.loop-cost-preserved
loop-cost-preserved c =
    let k : ℕ = c.loop-cost.cost-index in
    let small = cost-within (10 ^ 9) c.args.costs.now k c.requires c.loop-cost-test.true in
    let cost_fits : FitsSigned w64 (slice_index_or c.args.costs.now k (pos 0)) = omega (arith, ints, small) in
    let scaled : c.scaled.result ≡ pos c.args.scale *ℤ slice_index_or c.args.costs.now k (pos 0) = rw (to_z-of_z w64 (slice_index_or c.args.costs.now k (pos 0)) cost_fits) at c.scaled.ensures in
    let wide : FitsSigned w128 c.scaled.result = search rules in
    let items : c.push.new.self.items ≡ c.loop-cost.reduced.items ++ to_z w128 (of_z w128 c.scaled.result) ∷ [] = c.in_ok-push.ensures.items in
    let count : length c.push.new.self.items ≡ k + 1 = ap length items ∙ length_push c.loop-cost.reduced.items _ ∙ ap (λ (n : ℕ). n + 1) c.loop-cost.invariant.count in
    record {
      count = count;
      values = pushed (λ j z. z ≡ pos c.args.scale *ℤ int_at c.args.costs.now j) c.loop-cost.reduced.items c.push.new.self.items _ k c.loop-cost.invariant.count items c.loop-cost.invariant.values (to_z-of_z w128 c.scaled.result wide ∙ scaled);
    }
