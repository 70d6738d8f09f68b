use Rattle.scenario_changes.specs.Problems as problems
use Rattle.core_machine.proofs.state.State.take.Goals as goal

pub returns-in-Claim : goal.returns-in-Claim
returns-in-Claim c = rw c.in-Claim.is (c.claim.ensures (problems.problem c.args.problem.now))

pub returns-in-Note : goal.returns-in-Note
returns-in-Note c = rw c.in-Note.is (c.note.ensures (problems.problem c.args.problem.now))

pub returns-in-GiveBack : goal.returns-in-GiveBack
returns-in-GiveBack c = rw c.in-GiveBack.is (c.give_back.ensures (problems.problem c.args.problem.now))

pub returns-in-Sweep : goal.returns-in-Sweep
returns-in-Sweep c = rw c.in-Sweep.is (c.sweep.ensures (problems.problem c.args.problem.now))
