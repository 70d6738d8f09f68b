use Rattle.std.proofs.Common.{option_map, inr}
use Rattle.command_line.specs.Words.{Inputs}
use Rattle.scenopt.proofs.DeliveryLemmas.{reported, solved_by}
use Rattle.scenopt.proofs.run.solve_together.Goals as goal

pub returns-in-Ok-solved_together : goal.returns-in-Ok-solved_together
returns-in-Ok-solved_together g c =
    let inputs : Inputs = record { model = c.args.model.now; changes = option_map (λ n. n.now) c.args.changes } in
    solved_by inputs c.args.nodes (option_map (λ l. l.now) c.args.log) c.in-Ok.problem _ _ _ _ c.in-Ok.ensures.ok.0 c.in-Ok.ensures.ok.1 c.in-Ok.ensures.stays
    (reported c.in-Ok.problem c.args.nodes c.in-Ok-solved_together.ended.answers c.in-Ok-solved_together.ended.tree (option_map (λ l. l.now) c.args.log) _ _ _ c.requires.few c.in-Ok-solved_together.ensures.solved c.in-Ok-solved_together.ensures.fits c.report.ensures.told) c.report.ensures.fetched

pub returns : goal.returns
returns g c =
    let inputs : Inputs = record { model = c.args.model.now; changes = option_map (λ n. n.now) c.args.changes } in
    solved_by inputs c.args.nodes (option_map (λ l. l.now) c.args.log) c.in-Ok.problem _ _ _ _ c.in-Ok.ensures.ok.0 c.in-Ok.ensures.ok.1 c.in-Ok.ensures.stays
    (inr (record { lacks = c.lacking.ensures.lacks; untouched = record { files = c.lacking.ensures.others.files; printed = c.lacking.ensures.others.printed } })) c.lacking.ensures.others.fetched
