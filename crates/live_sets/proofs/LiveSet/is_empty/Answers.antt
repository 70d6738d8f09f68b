use Rattle.live_sets.proofs.SetTests.{empty_bits}
use Rattle.live_sets.proofs.LiveSet.is_empty.Goals as goal

pub returns : goal.returns
returns c = rw (← c.self.view_is) (empty_bits c.self.inside.bits c.self.invariant)
