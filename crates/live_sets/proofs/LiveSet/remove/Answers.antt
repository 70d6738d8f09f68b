use Rattle.live_sets.proofs.BitSets.{IsLiveList-members, members-without_bit}
use Rattle.live_sets.proofs.SetTests.{contains-without_bit}
use Rattle.live_sets.proofs.LiveSet.remove.Goals as goal

pub returns-clause-exact : goal.returns-clause-exact
returns-clause-exact c = rw (← c.self.view_is) (members-without_bit c.self.inside.bits c.args.s c.requires)

pub returns-clause-members : goal.returns-clause-members
returns-clause-members c k = rw (← c.self.view_is) (contains-without_bit c.self.inside.bits c.args.s k c.requires)

pub returns-clause-set : goal.returns-clause-set
returns-clause-set c = IsLiveList-members _
