use Rattle.std.proofs.Common.{length}
use Rattle.scenario_changes.specs.Problems.{problem, program_at}
use Rattle.certs.proofs.StayerLemmas.{stays_occupied, stays_in, is_none_is}
use Rattle.certs.proofs.stayers.is_stayer.Goals as goal

pub returns-then-replay_at-clause-occupied : goal.returns-then-replay_at-clause-occupied
returns-then-replay_at-clause-occupied c = λ none.
    let s = program_at (problem c.args.problem.now) c.args.s in
    let box = stays_in (problem c.args.problem.now) c.args.bounds.now c.args.cert.now s c.replay_at.new.part (c.replay_at.ensures.yes c.if-replay_at.true) (c.missed_row.ensures.none (is_none_is c.missed_row.result _ c.is_none.ensures none)) in
    stays_occupied (problem c.args.problem.now) c.args.bounds.now c.args.cert.now s c.replay_at.new.part (length c.args.problem.now.model.columns) (length c.args.problem.now.model.rows) c.costs-limits.ensures.within c.requires.columns box
