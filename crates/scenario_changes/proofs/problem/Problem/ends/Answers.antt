use Rattle.std.proofs.Common.{◌∙◌, ◌*◌, ◌^◌, ap, sym, subst, length, List}
use Rattle.std.specs.List.{All}
use Rattle.int_model.specs.Ends.{EndsWithin}
use Rattle.int_model.specs.declared.model.Ends.{Ends}
use Rattle.scenario_changes.proofs.ProblemLaws.{chosen, IsChosen}
use Rattle.scenario_changes.proofs.problem.Problem.ends.Goals as goal

facts : (c : goal.After-ends) → IsChosen c.args.self.now c.args.s c.index.result.now
facts c = chosen _ _ _ c.args.self.now c.args.s _ c.self.invariant c.self.view_is c.requires c.index.ensures

pub returns-clause-value : goal.returns-clause-value
returns-clause-value c = c.ends.ensures ∙ (facts c).ends

pub returns-clause-count : goal.returns-clause-count
returns-clause-count c = ap length (c.ends.ensures ∙ (facts c).ends) ∙ (facts c).within.shape.ends

pub returns-clause-limits : goal.returns-clause-limits
returns-clause-limits c = subst (λ (es : List Ends). All (EndsWithin (2 * 10 ^ 18)) es) (sym (c.ends.ensures ∙ (facts c).ends)) (facts c).within.ends
