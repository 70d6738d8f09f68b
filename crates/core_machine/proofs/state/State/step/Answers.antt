use Rattle.scenario_changes.specs.Problems as problems
use Rattle.core_machine.specs.Steps.{event_of}
use Rattle.core_machine.proofs.ShapeLaws.{shaped-reached}
use Rattle.core_machine.proofs.RunLaws.{reached-step}
use Rattle.core_machine.proofs.state.State.step.Goals as goal

pub take-requires : goal.take-requires
take-requires c = shaped-reached (problems.problem c.args.problem.now) c.args.self.now c.count-count.ensures.limits c.requires

pub returns-clause-reached : goal.returns-clause-reached
returns-clause-reached c = reached-step (problems.problem c.args.problem.now) c.args.self.now (event_of c.args.event) c.take.new.self c.take.result c.requires c.take.ensures
