use Rattle.std.proofs.Common.{rules, ◌≡◌, ◌∙◌, ◌<◌, ◌≤◌, ap, sym, subst, [], length, pos, ℤ, List}
use Rattle.std.specs.List.{All}
use Rattle.int_model.specs.Limits.{IsBound}
use Rattle.int_model.specs.Boxes.{box_of}
use Rattle.scenario_changes.specs.Problems.{problem, lesser, greater}
use Rattle.scenario_changes.proofs.ProblemLaws.{bounds-read}
use Rattle.scenario_changes.proofs.RootLemmas.{SidesAre, sides-step, root-begun, root-step, root-end}
use Rattle.scenario_changes.proofs.problem.Problem.root.Goals as goal

pub loop-s-init : goal.loop-s-init
loop-s-init c =
    let some : 0 < length (problem c.args.self.now).scenarios = c.count-s-end.ensures.limits.some_scenario in
    let same_lows : c.in_ok-lows.lows.items ≡ c.lows.result.now = search rules in
    let same_highs : c.in_ok-highs.highs.items ≡ c.highs.result.now = search rules in
    record {
      covers = root-begun c.args.self.now _ _ c.lows.result.now c.highs.result.now some same_lows same_highs c.lows.ensures.value c.highs.ensures.value;
      low_count = ap length same_lows ∙ c.lows.ensures.count;
      high_count = ap length same_highs ∙ c.highs.ensures.count;
      small_lows = subst (λ (xs : List ℤ). All IsBound xs) (sym same_lows) c.lows.ensures.limits;
      small_highs = subst (λ (xs : List ℤ). All IsBound xs) (sym same_highs) c.highs.ensures.limits;
    }

pub loop-s-preserved : goal.loop-s-preserved
loop-s-preserved c =
    let n = length c.args.self.now.model.columns in
    let within : c.loop-s.s < length (problem c.args.self.now).scenarios = search rules in
    let before : SidesAre n c.loop-s.lows.items c.loop-s.highs.items = record { low_count = c.loop-s.invariant.low_count; high_count = c.loop-s.invariant.high_count; small_lows = c.loop-s.invariant.small_lows; small_highs = c.loop-s.invariant.small_highs } in
    let next : SidesAre n c.lows-in-loop-s.result.now c.highs-in-loop-s.result.now = record { low_count = c.lows-in-loop-s.ensures.count; high_count = c.highs-in-loop-s.ensures.count; small_lows = c.lows-in-loop-s.ensures.limits; small_highs = c.highs-in-loop-s.ensures.limits } in
    let new_lows : c.in_ok-lows-2.lows.items ≡ lesser c.loop-s.lows.items c.lows-in-loop-s.result.now = c.in_ok-lows-2.ensures ∙ ap (λ (xs : List ℤ). lesser xs c.lows-in-loop-s.result.now) c.deref.ensures.value in
    let new_highs : c.in_ok-highs-2.highs.items ≡ greater c.loop-s.highs.items c.highs-in-loop-s.result.now = c.in_ok-highs-2.ensures ∙ ap (λ (xs : List ℤ). greater xs c.highs-in-loop-s.result.now) c.deref-in-loop-s.ensures.value in
    let after : SidesAre n c.in_ok-lows-2.lows.items c.in_ok-highs-2.highs.items = sides-step n _ _ _ _ _ _ before next new_lows new_highs in
    record {
      covers = root-step (problem c.args.self.now).scenarios (record { costs = []; constant = pos 0; bounds = []; rows = []; ends = [] }) c.loop-s.s n _ _ _ _ _ _ within before next (bounds-read c.args.self.now c.loop-s.s c.lows-in-loop-s.result.now c.highs-in-loop-s.result.now c.lows-in-loop-s.ensures.value c.highs-in-loop-s.ensures.value) new_lows new_highs c.loop-s.invariant.covers;
      low_count = after.low_count;
      high_count = after.high_count;
      small_lows = after.small_lows;
      small_highs = after.small_highs;
    }

pub returns : goal.returns
returns c =
    let end : length (problem c.args.self.now).scenarios ≤ c.loop-s.s = search rules in
    c.in_ok-root.ensures ∙ ap (λ (xs : List ℤ). box_of xs c.deref-3.result.now) c.deref-2.ensures.value ∙ ap (λ (xs : List ℤ). box_of c.loop-s.lows.items xs) c.deref-3.ensures.value ∙ root-end (problem c.args.self.now).scenarios c.loop-s.s (box_of c.loop-s.lows.items c.loop-s.highs.items) end c.loop-s.invariant.covers
