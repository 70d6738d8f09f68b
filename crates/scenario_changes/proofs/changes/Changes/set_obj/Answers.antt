use Rattle.scenario_changes.proofs.ChangeLemmas.{cost-set}
use Rattle.scenario_changes.proofs.changes.Changes.set_obj.Goals as goal

pub invariant_of-self : goal.invariant_of-self
invariant_of-self c = cost-set _ c.args.self.now c.args.column c.args.value _ _ c.self.invariant c.self.view_is c.in_default.ensures c.index_mut.ensures.value c.set_cost.ensures
