use Rattle.std.proofs.Common.{◌∙◌, ◌≡◌, ap, sym, subst, length, map, ℤ, List}
use Rattle.std.specs.List.{All}
use Rattle.int_model.specs.Limits.{IsBound}
use Rattle.int_model.specs.Boxes.{Box, Interval}
use Rattle.int_model.proofs.BoxLaws.{map-box_of}
use Rattle.scenario_changes.proofs.ProblemLaws.{chosen, IsChosen}
use Rattle.scenario_changes.proofs.problem.Problem.lows.Goals as goal

facts : (c : goal.After-lows) → IsChosen c.args.self.now c.args.s c.index.result.now
facts c = chosen _ _ _ c.args.self.now c.args.s _ c.self.invariant c.self.view_is c.requires c.index.ensures

pub returns-clause-value : goal.returns-clause-value
returns-clause-value c =
    let n = c.index.result.now in
    let same : length n.lows ≡ length n.highs = (facts c).low_count ∙ sym (facts c).high_count in
    c.lows.ensures ∙ sym (map-box_of n.lows n.highs same) ∙ ap (λ (b : Box). map (λ (i : Interval). i.low) b) (facts c).bounds

pub returns-clause-count : goal.returns-clause-count
returns-clause-count c = ap length c.lows.ensures ∙ (facts c).low_count

pub returns-clause-limits : goal.returns-clause-limits
returns-clause-limits c = subst (λ (xs : List ℤ). All IsBound xs) (sym c.lows.ensures) (facts c).small_lows
