use Rattle.scenario_changes.proofs.ChangeLemmas.{rhs-set}
use Rattle.scenario_changes.proofs.changes.Changes.set_rhs.Goals as goal

pub invariant_of-self : goal.invariant_of-self
invariant_of-self c = rhs-set _ c.args.self.now c.args.row c.args.value _ _ c.self.invariant c.self.view_is c.in_default.ensures c.index_mut.ensures.value c.set_rhs.ensures
