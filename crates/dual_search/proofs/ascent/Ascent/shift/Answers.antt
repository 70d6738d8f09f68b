use Rattle.std.proofs.Common.{rules, arith, ◌≡◌, ◌∙◌, ap, ℕ, ℤ, ◌<◌, List, length, slice_index_or, slice_set, w64, of_z, to_z}
use Rattle.std.proofs.lemmas.List.{length-set}
use Rattle.std.proofs.lemmas.Int.{to_z-of_z}
use Rattle.int_model.specs.Integers.{int_at}
use Rattle.scenario_changes.specs.Problems.{Scenarios, problem, program_at}
use Rattle.dual_search.specs.Gains.{AreReduced}
use Rattle.dual_search.specs.declared.ascent.Ascent.{Ascent}
use Rattle.dual_search.specs.declared.reduced_costs.ReducedCosts.{ReducedCosts}
use Rattle.dual_search.proofs.AscentLemmas.{few-terms, scenario-at, row-of, shifted-reduced, done-more, left-more}
use Rattle.dual_search.proofs.ascent.Ascent.shift.Goals as goal

pub shift-requires-clause-few : goal.shift-requires-clause-few
shift-requires-clause-few c =
    let line = row-of c.args.problem.now c.model-2.result.now c.args.row c.row-line.result.now c.as_slice-terms.result.now c.model-2.ensures c.row-line.ensures.value c.row-line.ensures.limits c.as_slice-terms.ensures in
    omega (arith, few-terms 0 _ c.as_slice-terms.result.now line.rising (omega arith), c.columns-columns.ensures.limits.few_columns, ap (λ (m : _). length m.columns) c.model.ensures)

pub shift-requires-clause-small : goal.shift-requires-clause-small
shift-requires-clause-small c =
    let k : ℕ = c.loop-k.k in
    let s : ℕ = c.index.result.now in
    let r : ReducedCosts = c.index_mut.result.now in
    let inside : c.loop-k.k < length c.args.self.now.scenarios.items = search rules in
    let number : s ≡ slice_index_or c.args.self.now.scenarios.items k s = c.index.ensures ∙ ap (λ (l : List ℕ). slice_index_or l k s) c.loop-k.invariant.scenarios in
    let own : r ≡ slice_index_or c.args.self.now.reduced.items k r = c.index_mut.ensures.value ∙ c.loop-k.invariant.left k r (omega arith) in
    let at = scenario-at c.args.problem.now c.args.self.now k s r c.count-count.ensures.limits c.requires.carried inside number own in
    at.small

pub loop-k-preserved : goal.loop-k-preserved
loop-k-preserved c =
    let p : Scenarios = c.args.problem.now in
    let a : Ascent = c.args.self.now in
    let k : ℕ = c.loop-k.k in
    let s : ℕ = c.index.result.now in
    let r : ReducedCosts = c.index_mut.result.now in
    let to : ℤ = to_z w64 (of_z w64 c.args.to) in
    let inside : c.loop-k.k < length c.args.self.now.scenarios.items = search rules in
    let number : s ≡ slice_index_or c.args.self.now.scenarios.items k s = c.index.ensures ∙ ap (λ (l : List ℕ). slice_index_or l k s) c.loop-k.invariant.scenarios in
    let own : r ≡ slice_index_or c.args.self.now.reduced.items k r = c.index_mut.ensures.value ∙ c.loop-k.invariant.left k r (omega arith) in
    let at = scenario-at c.args.problem.now c.args.self.now k s r c.count-count.ensures.limits c.requires.carried inside number own in
    let line = row-of c.args.problem.now c.model-2.result.now c.args.row c.row-line.result.now c.as_slice-terms.result.now c.model-2.ensures c.row-line.ensures.value c.row-line.ensures.limits c.as_slice-terms.ensures in
    let from : to_z w64 (of_z w64 c.args.from) ≡ int_at c.args.self.now.multipliers.items c.args.row = to_z-of_z w64 c.args.from c.ranges.from ∙ c.requires.start in
    let here = shifted-reduced c.args.problem.now c.args.self.now c.args.row k s r c.shift.new.self.costs.items c.as_slice-terms.result.now c.ends-ends.result.now (to_z w64 (of_z w64 c.args.from)) to c.requires.carried c.requires.row at line c.ends-ends.ensures.value from c.shift.ensures.count c.shift.ensures.values in
    let in_list : k < length c.loop-k.self.reduced.items = omega (arith, inside, c.loop-k.invariant.count, c.requires.carried.reduced.count) in
    record {
      scale = c.loop-k.invariant.scale;
      scenarios = c.loop-k.invariant.scenarios;
      multipliers = c.loop-k.invariant.multipliers;
      entries = c.loop-k.invariant.entries;
      count = length-set c.loop-k.self.reduced.items k c.shift.new.self ∙ c.loop-k.invariant.count;
      done = done-more (λ (i : ℕ) (x : ReducedCosts). AreReduced (program_at (problem p) (slice_index_or a.scenarios.items i 0)) a.scale (slice_set a.multipliers.items c.args.row to) x.costs.items) c.loop-k.self.reduced.items k c.shift.new.self in_list c.loop-k.invariant.done here;
      left = left-more c.loop-k.self.reduced.items a.reduced.items k c.shift.new.self c.loop-k.invariant.left;
    }
