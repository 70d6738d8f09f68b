use Rattle.live_sets.proofs.SetTests.{eq_sets, same_sets}
use Rattle.live_sets.proofs.LiveSetPartialEq.eq.Goals as goal

pub returns-clause-value : goal.returns-clause-value
returns-clause-value c = rw (← c.self.view_is, ← c.other.view_is) (eq_sets c.self.inside.bits c.other.inside.bits c.self.invariant c.other.invariant)

pub returns-clause-same : goal.returns-clause-same
returns-clause-same c = rw (← c.self.view_is, ← c.other.view_is) (same_sets c.self.inside.bits c.other.inside.bits c.self.invariant c.other.invariant)
