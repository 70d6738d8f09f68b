use Rattle.std.proofs.Common.{◌∙◌, ap, sym, subst, ◌^◌, length, ℤ, List}
use Rattle.int_model.specs.Programs.{CostsWithin}
use Rattle.scenario_changes.proofs.ProblemLaws.{chosen, IsChosen}
use Rattle.scenario_changes.proofs.problem.Problem.costs.Goals as goal

facts : (c : goal.After-costs) → IsChosen c.args.self.now c.args.s c.index.result.now
facts c = chosen _ _ _ c.args.self.now c.args.s _ c.self.invariant c.self.view_is c.requires c.index.ensures

pub returns-clause-value : goal.returns-clause-value
returns-clause-value c = c.costs.ensures ∙ (facts c).costs

pub returns-clause-count : goal.returns-clause-count
returns-clause-count c = ap length (c.costs.ensures ∙ (facts c).costs) ∙ (facts c).within.shape.costs

pub returns-clause-limits : goal.returns-clause-limits
returns-clause-limits c = subst (λ (xs : List ℤ). CostsWithin (10 ^ 9) xs) (sym (c.costs.ensures ∙ (facts c).costs)) (facts c).within.limits.costs

pub returns-clause-within : goal.returns-clause-within
returns-clause-within c = (facts c).within
