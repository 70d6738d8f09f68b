use Rattle.scenopt.proofs.RunLemmas.{tried_by}
use Rattle.scenopt.proofs.telling.tried.Goals as goal

pub returns-clause-warned : goal.returns-clause-warned
returns-clause-warned g c = tried_by c.args.message.now (g.D.Desk.view c.args.desk.now) (g.D.Desk.view c.warn.new.self) c.warn.result c.warn.ensures.warned c.warn.ensures.cause
