use Rattle.std.proofs.Common.{◌∙◌}
use Rattle.certs.proofs.ReplayLemmas.{level-empty, level-some, holds-empty, holds-some}
use Rattle.certs.proofs.judging.judge.Goals as goal

pub returns-then-not-replay_at-clause-level : goal.returns-then-not-replay_at-clause-level
returns-then-not-replay_at-clause-level c = c.level_on_nothing.ensures ∙ level-empty c.args.problem.now c.args.s c.args.cert.now.vectors c.args.verdict _ (c.replay_at.ensures.no c.if-not-replay_at.true)

pub returns-then-not-replay_at-clause-replay : goal.returns-then-not-replay_at-clause-replay
returns-then-not-replay_at-clause-replay c = holds-empty _ c.replay_at.new.part (c.replay_at.ensures.no c.if-not-replay_at.true)

pub returns-clause-level : goal.returns-clause-level
returns-clause-level c = c.level_on_replay.ensures ∙ level-some c.args.problem.now c.args.s c.args.cert.now.vectors c.args.verdict _ c.replay_at.new.part (c.replay_at.ensures.yes c.if-not-replay_at.false)

pub returns-clause-replay : goal.returns-clause-replay
returns-clause-replay c = holds-some _ c.replay_at.new.part (c.replay_at.ensures.yes c.if-not-replay_at.false)
