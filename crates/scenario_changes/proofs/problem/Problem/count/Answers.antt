use Rattle.std.proofs.Common.{subst}
use Rattle.scenario_changes.specs.Problems.{Scenarios, AreWithin, problem}
use Rattle.scenario_changes.proofs.ProblemLaws.{problem-within}
use Rattle.scenario_changes.proofs.problem.Problem.count.Goals as goal

pub returns-clause-limits : goal.returns-clause-limits
returns-clause-limits c =
    let k = c.self.invariant in subst (λ (p : Scenarios). AreWithin (problem p)) c.self.view_is (problem-within c.self.inside.model c.self.inside.changes k.limits k.changes k.fits)
