use Rattle.std.proofs.Common.{◌≡◌, ◌∷◌, [], ℕ, List, subst, refl, inl, inr, Some, Err}
use Rattle.tree_log.specs.Readings.{IsReading}
use Rattle.tree_log.specs.declared.fault.LogError.{LogError}
use Rattle.tree_log.specs.declared.fault.LogError.TheVariants.{Line}
use Rattle.scenopt.specs.Endings.{IsLogRefusal}
use Rattle.scenopt.specs.declared.input.Input.TheVariants.{Log}
use Rattle.scenopt.proofs.RunLemmas.{refused_by, stops_lacking}
use Rattle.scenopt.proofs.reading.log_in.Goals as goal

pub returns-in-Err-Line-clause-err : goal.returns-in-Err-Line-clause-err
returns-in-Err-Line-clause-err g c =
    let told : IsReading c.deref.result.now (Err (Line c.in-Err-Line.line c.in-Err-Line.kind)) = subst (λ (e : LogError). IsReading c.deref.result.now (Err e)) c.in-Err-Line.field-0-is c.in-Err-Line.ensures.answer in
    let reading : IsReading c.in_ok-bytes.bytes.items (Err (Line c.in-Err-Line.line c.in-Err-Line.kind)) = subst (λ (b : List ℕ). IsReading b (Err (Line c.in-Err-Line.line c.in-Err-Line.kind))) c.deref.ensures.value told in
    refused_by Log (Some c.args.name.now) (IsLogRefusal (g.D.Desk.view c.args.desk.now).files (Some c.args.name.now) c.args.problem.now) (c.args.name.now ∷ []) _ _ _ _ _ _ c.in_ok-bytes.ensures.ok.1 c.in_ok-bytes.ensures.stays c.refuse.ensures.others
    (inr (c.in_ok-bytes.bytes.items, c.in_ok-bytes.ensures.ok.0, inl (c.in-Err-Line.line, c.in-Err-Line.kind, reading, refl)))
    c.log_message.ensures c.refuse.ensures.tells

pub returns-clause-err : goal.returns-clause-err
returns-clause-err g c = stops_lacking Log (Some c.args.name.now) (IsLogRefusal (g.D.Desk.view c.args.desk.now).files (Some c.args.name.now) c.args.problem.now) (c.args.name.now ∷ []) _ _ _ _ c.in_ok-bytes.ensures.ok.1 c.in_ok-bytes.ensures.stays c.lacking.ensures.others c.lacking.ensures.lacks
