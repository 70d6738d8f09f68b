use Rattle.scenario_changes.specs.Problems.{problem}
use Rattle.node_work.proofs.SingleLaws.{replay-is_part}
use Rattle.node_work.proofs.remaining.refusal_at.Goals as goal

pub returns-in-None-clause-part : goal.returns-in-None-clause-part
returns-in-None-clause-part c = λ none. replay-is_part (problem c.args.problem.now) c.args.bounds.now c.args.cert.now c.args.s c.replay_at.new.part c.costs-limits.ensures.within c.requires.columns (c.replay_at.ensures.yes c.if-not-replay_at.false) (c.missed_row.ensures.none c.in-None.is) c.replay_at.ensures.count
