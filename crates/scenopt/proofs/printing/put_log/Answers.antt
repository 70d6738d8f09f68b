use Rattle.std.proofs.Common.{◌≡◌, ◌∙◌, inl, rules}
use Rattle.scenopt.specs.Answered.{log_of}
use Rattle.scenopt.proofs.DeliveryLemmas.{log_is_lost}
use Rattle.scenopt.proofs.printing.put_log.Goals as goal

pub returns-in-Err-Failed-clause-err : goal.returns-in-Err-Failed-clause-err
returns-in-Err-Failed-clause-err g c =
    inl (c.in-Ok.ensures.again, log_is_lost c.args.name.now c.deref.result.now (log_of c.args.problem.now c.args.ended.now.answers c.args.ended.now.tree) _ (g.D.Desk.view c.put.new.self) _ _ (c.deref.ensures.value ∙ c.in-Ok.ensures.text) (search rules) c.put.ensures.printed c.put.ensures.warned (search rules) c.tried.ensures.status c.tried.ensures.warned c.tried.ensures.others)
