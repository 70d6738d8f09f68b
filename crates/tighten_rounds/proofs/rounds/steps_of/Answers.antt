use Rattle.tighten_rounds.proofs.rounds.steps_of.Goals as goal

pub returns : goal.returns
returns c = c.loop-row.invariant
