use Rattle.std.proofs.Common.{◌∙◌, ap, option_map}
use Rattle.scenario_changes.specs.Problems.{Scenarios}
use Rattle.scenopt.proofs.RunLemmas.{prints_as}
use Rattle.scenopt.proofs.DeliveryLemmas.{for_log, log_lost, told_after}
use Rattle.scenopt.proofs.printing.report.Goals as goal

pub returns-in-Ok-put_log-clause-told : goal.returns-in-Ok-put_log-clause-told
returns-in-Ok-put_log-clause-told g c =
    let p : Scenarios = c.args.problem.now in
    for_log p c.args.ended.now.answers c.args.ended.now.tree _ _ _ _ _ (ap (option_map (λ l. l.now)) c.in-Some.is)
    (told_after p c.in-Some.name.now c.args.ended.now.answers c.args.ended.now.tree _ _ _ _ c.in-Ok-put_log.ensures.ok
    (prints_as _ _ _ _ _ _ _ c.status_of-status.ensures (c.deref-in-Ok-put_log.ensures.value ∙ c.in-Ok.ensures) c.print-in-Ok-put_log.ensures.prints) c.print-in-Ok-put_log.ensures.files)

pub returns-clause-told : goal.returns-clause-told
returns-clause-told g c =
    let p : Scenarios = c.args.problem.now in
    for_log p c.args.ended.now.answers c.args.ended.now.tree _ _ _ _ _ (ap (option_map (λ l. l.now)) c.in-Some.is)
    (log_lost p c.in-Some.name.now c.args.ended.now.answers c.args.ended.now.tree _ _ _ c.in-Err.ensures.err)
