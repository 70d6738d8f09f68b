use Rattle.std.proofs.Common.{◌≡◌, ◌∙◌, ◌∷◌, [], ap, sym, subst, refl, inr, Some, Err}
use Rattle.mps_reader.specs.MpsModels.{model_of}
use Rattle.mps_reader.specs.Endings.{IsErrorOf}
use Rattle.mps_reader.specs.declared.MpsError.{MpsError}
use Rattle.mps_reader.specs.declared.MpsError.TheVariants.{Line}
use Rattle.scenopt.specs.Endings.{IsModelRefusal}
use Rattle.scenopt.specs.declared.input.Input.TheVariants.{Model}
use Rattle.scenopt.proofs.RunLemmas.{refused_by, stops_lacking}
use Rattle.scenopt.proofs.reading.model_in.Goals as goal

pub returns-in-Err-Line-clause-err : goal.returns-in-Err-Line-clause-err
returns-in-Err-Line-clause-err g c =
    let told : IsErrorOf (model_of c.deref.result.now) (Line c.in-Err-Line.line c.in-Err-Line.kind) = subst (λ (e : MpsError). IsErrorOf (model_of c.deref.result.now) e) c.in-Err-Line.field-0-is c.in-Err-Line.ensures.err in
    let reading : model_of c.in_ok-bytes.bytes.items ≡ Err (c.in-Err-Line.line, c.in-Err-Line.kind) = ap model_of (sym c.deref.ensures.value) ∙ told in
    refused_by Model (Some c.args.name.now) (IsModelRefusal (g.D.Desk.view c.args.desk.now).files c.args.name.now) (c.args.name.now ∷ []) _ _ _ _ _ _ c.in_ok-bytes.ensures.ok.1 c.in_ok-bytes.ensures.stays c.refuse.ensures.others
    (inr (c.in_ok-bytes.bytes.items, c.in_ok-bytes.ensures.ok.0, (c.in-Err-Line.line, c.in-Err-Line.kind, reading, refl)))
    c.model_message.ensures c.refuse.ensures.tells

pub returns-clause-err : goal.returns-clause-err
returns-clause-err g c = stops_lacking Model (Some c.args.name.now) (IsModelRefusal (g.D.Desk.view c.args.desk.now).files c.args.name.now) (c.args.name.now ∷ []) _ _ _ _ c.in_ok-bytes.ensures.ok.1 c.in_ok-bytes.ensures.stays c.lacking.ensures.others c.lacking.ensures.lacks
