use Rattle.std.proofs.Common.{option_map, inl}
use Rattle.command_line.specs.Words.{Inputs}
use Rattle.scenopt.proofs.RunLemmas.{stays_after, stops_before, stops_at_log}
use Rattle.scenopt.proofs.DeliveryLemmas.{untouched_by, accepted_by}
use Rattle.scenopt.proofs.run.check.Goals as goal

pub returns-in-Err : goal.returns-in-Err
returns-in-Err g c =
    let inputs : Inputs = record { model = c.args.model.now; changes = option_map (λ n. n.now) c.args.changes } in
    inl (stops_before inputs c.args.log.now _ _ _ c.in-Err.ensures.err, untouched_by _ _ c.in-Err.ensures.stays)

pub returns-in-Ok-proof_in : goal.returns-in-Ok-proof_in
returns-in-Ok-proof_in g c =
    let inputs : Inputs = record { model = c.args.model.now; changes = option_map (λ n. n.now) c.args.changes } in
    accepted_by inputs c.args.log.now c.in-Ok.problem _ _ _ _ _ c.in-Ok.ensures.ok.0 c.in-Ok.ensures.ok.1 c.in-Ok.ensures.stays c.in-Ok-proof_in.ensures.ok.0 c.in-Ok-proof_in.ensures.ok.1 c.in-Ok-proof_in.ensures.stays c.print.ensures.prints c.print.ensures.files c.print.ensures.fetched

pub returns : goal.returns
returns g c =
    let inputs : Inputs = record { model = c.args.model.now; changes = option_map (λ n. n.now) c.args.changes } in
    inl (stops_at_log inputs c.in-Ok.problem c.args.log.now _ _ _ _ c.in-Ok.ensures.ok.0 c.in-Ok.ensures.ok.1 c.in-Ok.ensures.stays c.in-Err-proof_in.ensures.err, untouched_by _ _ (stays_after _ _ _ c.in-Ok.ensures.stays c.in-Err-proof_in.ensures.stays))
