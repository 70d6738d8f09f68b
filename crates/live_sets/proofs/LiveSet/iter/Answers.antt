use Rattle.live_sets.proofs.BitSets.{IsLiveList-members}
use Rattle.live_sets.proofs.LiveSet.iter.Goals as goal

pub returns-clause-set : goal.returns-clause-set
returns-clause-set c = rw (← c.self.view_is) (IsLiveList-members c.self.inside.bits)
