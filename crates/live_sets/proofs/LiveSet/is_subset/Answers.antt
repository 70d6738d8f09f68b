use Rattle.live_sets.proofs.SetTests.{subset_bits}
use Rattle.live_sets.proofs.LiveSet.is_subset.Goals as goal

pub returns : goal.returns
returns c = rw (← c.self.view_is, ← c.other.view_is) (subset_bits c.self.inside.bits c.other.inside.bits c.self.invariant c.other.invariant)
