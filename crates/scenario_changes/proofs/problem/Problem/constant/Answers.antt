use Rattle.std.proofs.Common.{rules, ◌∙◌, ◌≡◌, ap, sym, FitsSigned, w64}
use Rattle.std.proofs.lemmas.Int.{to_z-of_z}
use Rattle.int_model.specs.Models.{minimized}
use Rattle.scenario_changes.specs.Problems.{Scenarios}
use Rattle.scenario_changes.proofs.ProblemLaws.{constant-at}
use Rattle.scenario_changes.proofs.problem.Problem.constant.Goals as goal

pub returns-clause-value : goal.returns-clause-value
returns-clause-value c =
    let fits : FitsSigned w64 c.minimized.result = search rules in
    let constant_fits : FitsSigned w64 c.constant.result = search rules in
    let value = simp to_z-of_z at c.minimized.ensures in
    let base : c.minimized.result ≡ minimized c.args.self.now.model.direction c.args.self.now.model.constant =
    value ∙ ap (λ d. minimized d c.constant.result) c.direction.ensures ∙ ap (minimized c.self.inside.model.direction) c.constant.ensures.value ∙ ap (λ (p : Scenarios). minimized p.model.direction p.model.constant) c.self.view_is in
    λ s lt. constant-at c.args.self.now s lt ∙ sym (to_z-of_z w64 c.minimized.result fits ∙ base)
