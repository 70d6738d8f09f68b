use Rattle.std.proofs.Common.{rules, arith, ◌≡◌, ◌∙◌, ap, ℤ, pos, ◌^◌, ◌<◌, ◌≤◌, length, unsigned_abs, FitsSigned, w64, of_z, to_z, add-one}
use Rattle.std.proofs.lemmas.List.{get_or_read}
use Rattle.std.proofs.lemmas.Int.{ints, to_z-of_z}
use Rattle.int_model.specs.Integers.{int_at}
use Rattle.scenario_changes.specs.Problems.{Scenarios, problem}
use Rattle.dual_search.specs.Ascents.{vector_at, with_multiplier}
use Rattle.dual_search.specs.declared.ascent.Ascent.{Ascent}
use Rattle.dual_search.proofs.TotalLemmas.{apart-more}
use Rattle.dual_search.proofs.AscentLemmas.{few-terms, scenario-at, row-of, box-columns, scenario-gain}
use Rattle.dual_search.proofs.ascent.Ascent.gain.Goals as goal

pub gain-gain-requires-clause-few : goal.gain-gain-requires-clause-few
gain-gain-requires-clause-few c =
    let line = row-of c.args.problem.now c.model-2.result.now c.args.row c.row-line.result.now c.as_slice-terms.result.now c.model-2.ensures c.row-line.ensures.value c.row-line.ensures.limits c.as_slice-terms.ensures in
    omega (arith, few-terms 0 _ c.as_slice-terms.result.now line.rising (omega arith), c.columns-columns.ensures.limits.few_columns, ap (λ (m : _). length m.columns) c.model.ensures)

pub gain-gain-requires-clause-small : goal.gain-gain-requires-clause-small
gain-gain-requires-clause-small c =
    let inside : c.loop-k.k < length c.args.self.now.scenarios.items = search rules in
    let at = scenario-at c.args.problem.now c.args.self.now c.loop-k.k c.index.result.now c.index-in-loop-k.result.now c.count-count.ensures.limits c.requires.carried inside c.index.ensures c.index-in-loop-k.ensures in
    at.small

pub overflow_add-gain : goal.overflow_add-gain
overflow_add-gain c =
    let inside : c.loop-k.k < length c.args.self.now.scenarios.items = search rules in
    omega (arith, ints, c.gain-gain.ensures.limit, c.requires.carried.few_scenarios, inside, c.loop-k.invariant.limit)

pub loop-k-preserved : goal.loop-k-preserved
loop-k-preserved c =
    let p : Scenarios = c.args.problem.now in
    let a : Ascent = c.args.self.now in
    let to : ℤ = to_z w64 (of_z w64 c.args.to) in
    let inside : c.loop-k.k < length c.args.self.now.scenarios.items = search rules in
    let at = scenario-at c.args.problem.now c.args.self.now c.loop-k.k c.index.result.now c.index-in-loop-k.result.now c.count-count.ensures.limits c.requires.carried inside c.index.ensures c.index-in-loop-k.ensures in
    let line = row-of c.args.problem.now c.model-2.result.now c.args.row c.row-line.result.now c.as_slice-terms.result.now c.model-2.ensures c.row-line.ensures.value c.row-line.ensures.limits c.as_slice-terms.ensures in
    let columns = box-columns c.args.problem.now c.args.self.now c.args.boxes.now c.loop-k.k c.index.result.now c.index-in-loop-k.result.now c.index-boxes-k.result at c.requires.boxes c.index-boxes-k.is in
    let in_rows : c.args.row < length c.args.self.now.multipliers.items = omega (arith, c.requires.row, c.requires.carried.rows) in
    let read : c.index-from.result.now ≡ int_at c.args.self.now.multipliers.items c.args.row = get_or_read c.args.self.now.multipliers.items c.args.row c.index-from.result.now in_rows c.index-from.ensures (pos 0) in
    let from_small : unsigned_abs c.index-from.result.now ≤ 2 ^ 40 = rw read (c.requires.carried.vector.limits c.args.row) in
    let from_fits : FitsSigned w64 c.index-from.result.now = omega (arith, ints, from_small) in
    let from : to_z w64 (of_z w64 c.index-from.result.now) ≡ int_at c.args.self.now.multipliers.items c.args.row = to_z-of_z w64 c.index-from.result.now from_fits ∙ read in
    let grows = scenario-gain c.args.problem.now c.args.self.now c.args.boxes.now c.args.row c.loop-k.k c.index.result.now c.index-in-loop-k.result.now c.index-boxes-k.result c.as_slice-terms.result.now c.ends-ends.result.now (to_z w64 (of_z w64 c.index-from.result.now)) to c.gain-gain.result c.requires.carried c.requires.row at line columns c.ends-ends.ensures.value from c.gain-gain.ensures.value in
    rw add-one (record {
      apart = apart-more (problem p) a.scenarios.items c.args.boxes.now (vector_at a) (with_multiplier a c.args.row to) c.loop-k.k c.index.result.now c.index-boxes-k.result _ c.gain-gain.result _ inside (omega (arith, inside, c.requires.boxes.count)) at.number c.index-boxes-k.is c.loop-k.invariant.apart grows (omega (arith, ints, c.gain-gain.ensures.limit, c.requires.carried.few_scenarios, inside, c.loop-k.invariant.limit));
      limit = omega (arith, ints, c.gain-gain.ensures.limit, c.requires.carried.few_scenarios, inside, c.loop-k.invariant.limit);
    })
