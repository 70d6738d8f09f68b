use Rattle.std.proofs.Common.{arith, ◌≡◌, ◌+ℤ◌, ◌∙◌, ◌<◌, ap, length, suc, FitsSigned, to_z, of_z}
use Rattle.std.proofs.lemmas.Int.{ints, to_z-of_z}
use mir.Syntax.{w128}
use Rattle.int_model.specs.Boxes.{Box}
use Rattle.dual_bounds.specs.Vectors.{program_sum}
use Rattle.scenario_changes.specs.Problems.{problem, program_at}
use Rattle.certs.proofs.StayerLemmas.{go_on}
use Rattle.node_work.proofs.TotalLaws.{total_next}
use Rattle.node_work.proofs.multipliers.total_of.Goals as goal

pub loop-s-preserved : goal.loop-s-preserved
loop-s-preserved c =
    let fits : FitsSigned w128 c.sum_of-sum.result = omega (arith, ints, c.sum_of-sum.ensures.limit) in
    let inner : to_z w128 (of_z w128 c.sum_of-sum.result) ≡ c.sum_of-sum.result = to_z-of_z w128 c.sum_of-sum.result fits in
    let rest : length c.loop-s.s-iterator ≡ suc (length c.next.new.self) = ap length c.in-Some.ensures.steps in
    let few : c.loop-s.k < 64 = omega (arith, c.loop-s.invariant.so_far.left, rest, c.requires.count, c.count-few.ensures.value, c.count-few.ensures.limit) in
    let total_fits : FitsSigned w128 (to_z w128 c.loop-s.sum-bits +ℤ c.sum_of-sum.result) = omega (arith, ints, c.sum_of-sum.ensures.limit, c.loop-s.invariant.limit, few) in
    let outer : to_z w128 (of_z w128 (to_z w128 c.loop-s.sum-bits +ℤ c.sum_of-sum.result)) ≡ to_z w128 c.loop-s.sum-bits +ℤ c.sum_of-sum.result = to_z-of_z w128 (to_z w128 c.loop-s.sum-bits +ℤ c.sum_of-sum.result) total_fits in
    rw inner (rw outer (record {
      whole = go_on c.loop-s.yielded c.loop-s.s-iterator c.next.new.self c.args.remaining.now.scenarios c.in-Some.s c.loop-s.invariant.whole c.in-Some.ensures.steps;
      so_far = total_next (problem c.args.problem.now) c.args.remaining.now.scenarios c.args.remaining.now.boxes.items c.args.vector.now c.loop-s.k (to_z w128 c.loop-s.sum-bits) c.loop-s.s-iterator c.in-Some.s c.next.new.self c.index.result.now c.sum_of-sum.result c.loop-s.invariant.so_far c.in-Some.ensures.steps (c.sum_of-sum.ensures.value ∙ ap (λ (b : Box). program_sum (program_at (problem c.args.problem.now) c.in-Some.s) c.args.vector.now b) c.index.ensures);
      limit = omega (arith, ints, c.sum_of-sum.ensures.limit, c.loop-s.invariant.limit);
    }))
