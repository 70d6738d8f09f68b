use Rattle.std.proofs.Common.{length}
use Rattle.scenario_changes.specs.Problems.{problem}
use Rattle.node_work.proofs.HullLaws.{open_now}
use Rattle.node_work.proofs.stayers.replay_open.Goals as goal

pub returns-clause-here : goal.returns-clause-here
returns-clause-here c = (open_now (problem c.args.problem.now) c.args.bounds.now c.args.cert.now (length c.args.problem.now.model.columns) (length c.args.problem.now.model.rows) c.args.s c.replay_at.result c.replay_at.new.part c.costs-limits.ensures.within c.requires.columns c.requires.open c.replay_at.ensures.yes c.replay_at.ensures.no).here

pub returns-clause-occupied : goal.returns-clause-occupied
returns-clause-occupied c = (open_now (problem c.args.problem.now) c.args.bounds.now c.args.cert.now (length c.args.problem.now.model.columns) (length c.args.problem.now.model.rows) c.args.s c.replay_at.result c.replay_at.new.part c.costs-limits.ensures.within c.requires.columns c.requires.open c.replay_at.ensures.yes c.replay_at.ensures.no).occupied

pub returns-clause-several : goal.returns-clause-several
returns-clause-several c = (open_now (problem c.args.problem.now) c.args.bounds.now c.args.cert.now (length c.args.problem.now.model.columns) (length c.args.problem.now.model.rows) c.args.s c.replay_at.result c.replay_at.new.part c.costs-limits.ensures.within c.requires.columns c.requires.open c.replay_at.ensures.yes c.replay_at.ensures.no).several
