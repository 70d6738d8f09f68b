use Rattle.scenario_changes.specs.Problems as problems
use Rattle.bb_core.specs.Shared.{settlement_of}
use Rattle.core_machine.proofs.SettleLaws.{allowed_short}
use Rattle.core_machine.proofs.state.State.settle.Goals as goal

pub enter-requires-clause-short : goal.enter-requires-clause-short
enter-requires-clause-short c = allowed_short (problems.problem c.args.problem.now) c.args.self.now c.args.actor (settlement_of c.args.settlement) c.in_ok-may_settle.field-0 c.requires.limits c.in_ok-may_settle.ensures c.if-not-branch.false
