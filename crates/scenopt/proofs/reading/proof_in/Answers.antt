use Rattle.std.proofs.Common.{◌≡◌, ◌∷◌, [], Some, inr}
use Rattle.std.proofs.lemmas.Result.{IfOk-weaker}
use Rattle.scenopt.specs.Messages.{check_text}
use Rattle.scenopt.specs.Endings.{IsLogRefusal}
use Rattle.scenopt.specs.declared.input.Input.TheVariants.{Log}
use Rattle.scenopt.proofs.RunLemmas.{refused_for}
use Rattle.scenopt.proofs.reading.proof_in.Goals.{in-Ok, in-Err}
use Rattle.scenopt.proofs.reading.proof_in.Goals as goal

pub returns-clause-err : goal.returns-clause-err
returns-clause-err g c = elim c.match-check.branch [
  | in-Ok w ↦ rw (w.result-is) tt
  | in-Err w ↦ rw (w.result-is, w.desk-is) (refused_for Log (Some c.args.name.now) (IsLogRefusal (g.D.Desk.view c.args.desk.now).files (Some c.args.name.now) c.args.problem.now) (c.args.name.now ∷ []) _ _ _ w.check_message.result _ c.in_ok-log.ensures.ok.1 c.in_ok-log.ensures.stays w.refuse.ensures.others
      (IfOk-weaker w.check_message.result (λ m. check_text w.in-Err.error ≡ Some m.items) (λ m. IsLogRefusal (g.D.Desk.view c.args.desk.now).files (Some c.args.name.now) c.args.problem.now m.items)
      (λ m e. inr (c.in_ok-log.ensures.ok.0.bytes, c.in_ok-log.ensures.ok.0.has, inr (c.in_ok-log.log, c.in_ok-log.ensures.ok.0.is, (w.in-Err.error, w.in-Err.ensures, e)))) w.check_message.ensures)
      w.refuse.ensures.tells)
]
