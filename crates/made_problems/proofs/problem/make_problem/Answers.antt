use Rattle.std.proofs.Common.{◌≡◌, ◌∙◌}
use Rattle.std.proofs.lemmas.Result.{IfOk-weaker}
use Rattle.scenario_changes.specs.Problems.{Scenarios}
use Rattle.made_problems.specs.Made.{IsMade}
use Rattle.made_problems.proofs.Acceptance.{model_made, changes_made, problem_made}
use Rattle.made_problems.proofs.problem.make_problem.Goals as goal

pub model_in-requires-clause-accepted : goal.model_in-requires-clause-accepted
model_in-requires-clause-accepted c =
    model_made c.args.seed c.args.columns c.args.rows c.args.scenarios c.requires.some c.requires.columns c.requires.rows c.requires.scenarios c.deref.result.now (c.deref.ensures.value ∙ c.in_ok-texts.ensures.model)

pub changes_in-requires-clause-accepted : goal.changes_in-requires-clause-accepted
changes_in-requires-clause-accepted c =
    changes_made c.args.seed c.args.columns c.args.rows c.args.scenarios c.requires.some c.requires.columns c.requires.rows c.requires.scenarios c.in_ok-model.model c.deref.result.now c.deref-2.result.now (c.deref.ensures.value ∙ c.in_ok-texts.ensures.model) (c.deref-2.ensures.value ∙ c.in_ok-texts.ensures.changes) c.in_ok-model.ensures

pub returns : goal.returns
returns c =
    IfOk-weaker c.new.result (λ (p : Scenarios). p ≡ record { model = c.in_ok-model.model; changes = c.in_ok-changes.changes.scenarios }) (IsMade c.args.seed c.args.columns c.args.rows c.args.scenarios)
    (λ p is. problem_made c.args.seed c.args.columns c.args.rows c.args.scenarios c.requires.some c.requires.columns c.requires.rows c.requires.scenarios c.in_ok-model.model c.in_ok-changes.changes p c.deref.result.now c.deref-2.result.now (c.deref.ensures.value ∙ c.in_ok-texts.ensures.model) (c.deref-2.ensures.value ∙ c.in_ok-texts.ensures.changes) c.in_ok-model.ensures c.in_ok-changes.ensures.0 is)
    c.new.ensures
