use Rattle.std.proofs.Common.{rules, arith, ◌≡◌, ◌∙◌, ap, sym, subst, ℕ, ℤ, pos, ◌+◌, ◌*ℤ◌, ◌<◌, ◌≤◌, ◌++◌, [], ◌∷◌, List, length, slice_index_or}
use Rattle.std.specs.Prelude.{All}
use Rattle.std.proofs.lemmas.List.{length_push}
use Rattle.int_model.specs.Integers.{int_at}
use Rattle.scenario_changes.specs.Problems.{problem, program_at}
use Rattle.dual_search.specs.declared.reduced_costs.ReducedCosts.{ReducedCosts}
use Rattle.dual_search.proofs.ZeroLemmas.{IsScaled, no-entries, scaled-reduced, pushed-costs}
use Rattle.dual_search.proofs.ascent.Ascent.at_zero.Goals as goal

pub loop-s-preserved : goal.loop-s-preserved
loop-s-preserved c =
    let k : ℕ = c.loop-s.s-index in
    let s : ℕ = slice_index_or c.deref-s-items.result.now k 0 in
    let r : ReducedCosts = c.in_ok-new.field-0 in
    let costs : c.costs.result.now ≡ (program_at (problem c.args.problem.now) s).costs = c.costs.ensures.value in
    let scaled : IsScaled (program_at (problem c.args.problem.now) s) c.args.scale r.costs.items = record {
      count = c.in_ok-new.ensures.count ∙ ap (λ (l : List ℤ). length l) costs;
      values = λ j h. c.in_ok-new.ensures.values j (rw costs h) ∙ ap (λ (l : List ℤ). pos c.args.scale *ℤ int_at l j) costs;
    } in
    let items : c.push.new.self.items ≡ c.loop-s.reduced.items ++ r ∷ [] = c.in_ok-push.ensures.items in
    record {
      count = ap (λ (l : List ReducedCosts). length l) items ∙ length_push c.loop-s.reduced.items r ∙ ap (λ (n : ℕ). n + 1) c.loop-s.invariant.count;
      values = pushed-costs (λ (i : ℕ) (x : ReducedCosts). IsScaled (program_at (problem c.args.problem.now) (slice_index_or c.deref-s-items.result.now i 0)) c.args.scale x.costs.items) c.loop-s.reduced.items c.push.new.self.items r k c.loop-s.invariant.count items c.loop-s.invariant.values scaled;
    }

pub returns-clause-carried : goal.returns-clause-carried
returns-clause-carried c =
    let ys : List ℤ = c.in_ok-multipliers.multipliers.items in
    let xs : List ℕ = c.in_ok-scenarios.scenarios.items in
    let members : c.in_ok-scenarios.scenarios.items ≡ c.args.live = c.in_ok-scenarios.ensures in
    let read : c.deref-s-items.result.now ≡ c.in_ok-scenarios.scenarios.items = search rules in
    let none = c.in_ok-multipliers.ensures.values in
    let rows : length c.in_ok-multipliers.multipliers.items ≡ length c.args.problem.now.model.rows = c.in_ok-multipliers.ensures.count ∙ c.rows.ensures.count ∙ ap (λ (m : _). length m.rows) c.model.ensures in
    let all_done : length c.deref-s-items.result.now ≤ c.loop-s.s-index = search rules in
    let within : c.loop-s.s-index ≤ length c.deref-s-items.result.now = search rules in
    let count : length c.loop-s.reduced.items ≡ length c.in_ok-scenarios.scenarios.items = omega (arith, c.loop-s.invariant.count, ap (λ (l : List ℕ). length l) read, all_done, within) in
    record {
      vector = record {
        scale = c.requires.scale;
        few_rows = omega (arith, rows, c.rows.ensures.limits.few_rows, ap (λ (m : _). length m.rows) c.model.ensures);
        limits = λ i. rw (none i) (omega arith);
        entries = sym (ap (λ (l : _). length l) (no-entries 0 c.in_ok-multipliers.multipliers.items none));
        few = omega arith;
      };
      scenarios = subst (λ (l : List ℕ). All (λ s. s < length (problem c.args.problem.now).scenarios) l) (sym members) c.requires.live;
      few_scenarios = omega (arith, ap (λ (l : List ℕ). length l) members, c.count.ensures.value, c.count.ensures.limit);
      rows = rows;
      reduced = record {
        count = count;
        values = λ k d h.
            let early : k < c.loop-s.s-index = omega (arith, h, count, c.loop-s.invariant.count) in
            scaled-reduced (program_at (problem c.args.problem.now) (slice_index_or c.in_ok-scenarios.scenarios.items k 0)) c.args.scale c.in_ok-multipliers.multipliers.items (slice_index_or c.loop-s.reduced.items k d).costs.items none
            (subst (λ (l : List ℕ). IsScaled (program_at (problem c.args.problem.now) (slice_index_or l k 0)) c.args.scale (slice_index_or c.loop-s.reduced.items k d).costs.items) read (c.loop-s.invariant.values k d early));
      };
    }
