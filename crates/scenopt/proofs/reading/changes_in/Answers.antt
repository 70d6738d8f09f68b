use Rattle.std.proofs.Common.{◌≡◌, ◌∙◌, ◌∷◌, [], ap, sym, subst, refl, inr, Err, Some, option_map}
use Rattle.changes_reader.specs.ChangesText.{changes_of}
use Rattle.changes_reader.specs.Readings.{IsReading}
use Rattle.changes_reader.specs.declared.ChangesError.{ChangesError}
use Rattle.changes_reader.specs.declared.ChangesError.TheVariants.{Line}
use Rattle.scenopt.specs.Endings.{IsChangesRefusal}
use Rattle.scenopt.specs.declared.input.Input.TheVariants.{Changes}
use Rattle.scenopt.proofs.RunLemmas.{refused_by, stops_lacking, named_changes}
use Rattle.scenopt.proofs.reading.changes_in.Goals as goal

pub returns-in-Err-Line-clause-err : goal.returns-in-Err-Line-clause-err
returns-in-Err-Line-clause-err g c =
    let m = c.args.model.now in
    let told : IsReading m c.deref.result.now (Err (Line c.in-Err-Line.line c.in-Err-Line.kind)) = subst (λ (e : ChangesError). IsReading m c.deref.result.now (Err e)) c.in-Err-Line.field-0-is c.in-Err-Line.ensures in
    let reading : changes_of m c.in_ok-bytes.bytes.items ≡ Err (c.in-Err-Line.line, c.in-Err-Line.kind) = ap (changes_of m) (sym c.deref.ensures.value) ∙ told in
    named_changes (g.D.Desk.view c.args.desk.now).files _ c.in-Some.name.now m _ _ _ (ap (option_map (λ n. n.now)) c.in-Some.is)
    (refused_by Changes (Some c.in-Some.name.now) (IsChangesRefusal (g.D.Desk.view c.args.desk.now).files (Some c.in-Some.name.now) m) (c.in-Some.name.now ∷ []) _ _ _ _ _ _ c.in_ok-bytes.ensures.ok.1 c.in_ok-bytes.ensures.stays c.refuse.ensures.others (inr (c.in_ok-bytes.bytes.items, c.in_ok-bytes.ensures.ok.0, (c.in-Err-Line.line, c.in-Err-Line.kind, reading, refl))) c.changes_message.ensures c.refuse.ensures.tells)

pub returns-clause-err : goal.returns-clause-err
returns-clause-err g c =
    named_changes (g.D.Desk.view c.args.desk.now).files _ c.in-Some.name.now c.args.model.now _ _ _ (ap (option_map (λ n. n.now)) c.in-Some.is)
    (stops_lacking Changes (Some c.in-Some.name.now) (IsChangesRefusal (g.D.Desk.view c.args.desk.now).files (Some c.in-Some.name.now) c.args.model.now) (c.in-Some.name.now ∷ []) _ _ _ _ c.in_ok-bytes.ensures.ok.1 c.in_ok-bytes.ensures.stays c.lacking-in-Err-Memory.ensures.others c.lacking-in-Err-Memory.ensures.lacks)
