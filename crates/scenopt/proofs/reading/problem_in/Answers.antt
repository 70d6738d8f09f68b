use Rattle.std.proofs.Common.{◌≡◌, ◌∙◌, rules, sym, subst, Err, option_map}
use Rattle.command_line.specs.Words.{Inputs}
use Rattle.scenopt.proofs.RunLemmas.{stops_at_changes, posed, lacks_problem, err_as}
use Rattle.scenopt.proofs.reading.problem_in.Goals as goal

pub returns-in_err-changes-clause-err : goal.returns-in_err-changes-clause-err
returns-in_err-changes-clause-err g c =
    let inputs : Inputs = record { model = c.args.model.now; changes = option_map (λ n. n.now) c.args.changes } in
    err_as c.from_residual-in_err-changes.result c.in_err-changes.field-0.0 _ c.from_residual-in_err-changes.ensures.1
    (stops_at_changes inputs c.in_ok-model.model _ _ _ _ c.in_ok-model.ensures.ok.0 c.in_ok-model.ensures.ok.1 c.in_ok-model.ensures.stays c.in_err-changes.ensures.err)

pub returns-in-Ok-clause-ok : goal.returns-in-Ok-clause-ok
returns-in-Ok-clause-ok g c =
    let inputs : Inputs = record { model = c.args.model.now; changes = option_map (λ n. n.now) c.args.changes } in
    posed inputs c.in_ok-model.model c.in_ok-changes.changes.scenarios c.in-Ok.problem _ _ _ c.in_ok-model.ensures.ok.0 c.in_ok-model.ensures.ok.1 c.in_ok-model.ensures.stays c.in_ok-changes.ensures.ok.0 c.in_ok-changes.ensures.ok.2 c.in-Ok.ensures

pub returns-in-Err-clause-err : goal.returns-in-Err-clause-err
returns-in-Err-clause-err g c =
    let inputs : Inputs = record { model = c.args.model.now; changes = option_map (λ n. n.now) c.args.changes } in
    lacks_problem inputs _ _ _ _ _ c.in_ok-model.ensures.ok.1 c.in_ok-changes.ensures.ok.2 c.in_ok-model.ensures.stays c.in_ok-changes.ensures.stays c.lacking.ensures.others c.lacking.ensures.lacks
