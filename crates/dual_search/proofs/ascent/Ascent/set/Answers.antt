use Rattle.std.proofs.Common.{rules, arith, ◌≡◌, ◌∙◌, ap, subst, List, ℤ, pos, ◌<◌, length, slice_set, FitsSigned, w64, of_z, to_z}
use Rattle.std.proofs.lemmas.List.{get_or_read}
use Rattle.std.proofs.lemmas.Int.{to_z-of_z}
use Rattle.int_model.specs.Integers.{int_at}
use Rattle.dual_search.specs.Gains.{entry_count}
use Rattle.dual_search.specs.Ascents.{AreAllReduced}
use Rattle.dual_search.proofs.AscentLemmas.{limits-told, entries-after, carried-moved}
use Rattle.dual_search.proofs.ascent.Ascent.set.Goals as goal

pub shift-requires-clause-limit : goal.shift-requires-clause-limit
shift-requires-clause-limit c =
    let in_rows : c.args.row < length c.args.self.now.multipliers.items = omega (arith, c.requires.row, c.requires.carried.rows) in
    let small = limits-told c.args.self.now c.args.row c.args.to in_rows c.requires.limits in
    let fits : FitsSigned w64 c.args.to = c.ranges.to in
    rw (to_z-of_z w64 c.args.to fits) small

pub overflow_sub-self : goal.overflow_sub-self
overflow_sub-self c =
    let in_rows : c.args.row < length c.args.self.now.multipliers.items = omega (arith, c.requires.row, c.requires.carried.rows) in
    let read : c.index-from.result.now ≡ int_at c.args.self.now.multipliers.items c.args.row = get_or_read c.args.self.now.multipliers.items c.args.row c.index-from.result.now in_rows c.index-from.ensures (pos 0) in
    let fits : FitsSigned w64 c.index-from.result.now = search rules in
    let from = to_z-of_z w64 c.index-from.result.now fits ∙ read in
    let to_fits : FitsSigned w64 c.args.to = c.ranges.to in
    let count : c.entry_count.result ≡ entry_count c.args.to = c.entry_count.ensures.value ∙ ap entry_count (to_z-of_z w64 c.args.to to_fits) in
    let after = entries-after c.args.self.now c.args.row _ c.args.to c.entry_count.result c.entry_count-2.result c.requires.carried.vector in_rows from count c.entry_count-2.ensures.value in
    omega (arith, after, c.shift.ensures.entries)

pub returns-clause-carried : goal.returns-clause-carried
returns-clause-carried c =
    let in_rows : c.args.row < length c.args.self.now.multipliers.items = omega (arith, c.requires.row, c.requires.carried.rows) in
    let read : c.index-from.result.now ≡ int_at c.args.self.now.multipliers.items c.args.row = get_or_read c.args.self.now.multipliers.items c.args.row c.index-from.result.now in_rows c.index-from.ensures (pos 0) in
    let fits : FitsSigned w64 c.index-from.result.now = search rules in
    let from = to_z-of_z w64 c.index-from.result.now fits ∙ read in
    let to_fits : FitsSigned w64 c.args.to = c.ranges.to in
    let to : to_z w64 (of_z w64 c.args.to) ≡ c.args.to = to_z-of_z w64 c.args.to to_fits in
    let count : c.entry_count.result ≡ entry_count c.args.to = c.entry_count.ensures.value ∙ ap entry_count to in
    let after = entries-after c.args.self.now c.args.row _ c.args.to c.entry_count.result c.entry_count-2.result c.requires.carried.vector in_rows from count c.entry_count-2.ensures.value in
    carried-moved c.args.problem.now c.args.self.now _ c.args.row c.args.to c.requires.carried c.requires.row c.requires.limits (record {
      scale = c.shift.ensures.scale;
      scenarios = c.shift.ensures.scenarios;
      multipliers = ap (λ (l : List ℤ). slice_set l c.args.row (to_z w64 (of_z w64 c.args.to))) c.shift.ensures.multipliers ∙ ap (λ (z : ℤ). slice_set c.args.self.now.multipliers.items c.args.row z) to;
      entries = omega (arith, after, c.shift.ensures.entries);
      reduced = subst (λ (z : ℤ). AreAllReduced c.args.problem.now c.args.self.now.scale (slice_set c.args.self.now.multipliers.items c.args.row z) c.args.self.now.scenarios.items c.shift.new.self.reduced.items) to c.shift.ensures.reduced;
    })
