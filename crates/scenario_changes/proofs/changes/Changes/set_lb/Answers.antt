use Rattle.scenario_changes.proofs.ChangeLemmas.{low-set}
use Rattle.scenario_changes.proofs.changes.Changes.set_lb.Goals as goal

pub invariant_of-self : goal.invariant_of-self
invariant_of-self c = low-set _ c.args.self.now c.args.column c.args.value _ _ _ c.self.invariant c.self.view_is c.in_default.ensures c.bound_of.ensures c.index_mut.ensures.value c.set_low.ensures
