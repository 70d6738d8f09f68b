use Rattle.std.proofs.Common.{arith}
use Rattle.std.proofs.lemmas.Nat.{or_lt}
use Rattle.live_sets.proofs.BitSets.{IsLiveList-members, members-with_bit}
use Rattle.live_sets.proofs.SetTests.{contains-with_bit}
use Rattle.live_sets.proofs.LiveSet.insert.Goals as goal

pub invariant_of-self : goal.invariant_of-self
invariant_of-self c = or_lt 64 c.self.inside.bits _ c.self.invariant (omega arith)

pub returns-clause-exact : goal.returns-clause-exact
returns-clause-exact c = rw (← c.self.view_is) (members-with_bit c.self.inside.bits c.args.s c.requires)

pub returns-clause-members : goal.returns-clause-members
returns-clause-members c k = rw (← c.self.view_is) (contains-with_bit c.self.inside.bits c.args.s k c.requires)

pub returns-clause-set : goal.returns-clause-set
returns-clause-set c = IsLiveList-members _
