use Rattle.scenario_changes.specs.Problems as problems
use Rattle.bb_core.proofs.MachineLaws.{led-holds}
use Rattle.core_machine.proofs.state.State.run.Goals as goal

pub returns-clause-holds : goal.returns-clause-holds
returns-clause-holds c =
    led-holds (problems.problem c.args.problem.now) c.count-count.ensures.limits c.loop-event.invariant.reached.actors c.loop-event.invariant.reached.events c.loop-event.state c.loop-event.invariant.reached.led
