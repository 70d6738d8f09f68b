use Rattle.live_sets.proofs.BitSets.{IsLiveList-members}
use Rattle.live_sets.proofs.SetTests.{contains_bit, contains_beyond}
use Rattle.live_sets.proofs.LiveSet.contains.Goals as goal

pub returns-then-s-lt64-clause-member : goal.returns-then-s-lt64-clause-member
returns-then-s-lt64-clause-member c = rw (← c.self.view_is) (contains_bit c.self.inside.bits c.args.s c.if-s-lt64.true)

pub returns-then-s-lt64-clause-set : goal.returns-then-s-lt64-clause-set
returns-then-s-lt64-clause-set c = rw (← c.self.view_is) (IsLiveList-members c.self.inside.bits)

pub returns-else-s-lt64-clause-member : goal.returns-else-s-lt64-clause-member
returns-else-s-lt64-clause-member c = rw (← c.self.view_is) (contains_beyond c.self.inside.bits c.args.s c.if-s-lt64.false)

pub returns-else-s-lt64-clause-set : goal.returns-else-s-lt64-clause-set
returns-else-s-lt64-clause-set c = rw (← c.self.view_is) (IsLiveList-members c.self.inside.bits)
