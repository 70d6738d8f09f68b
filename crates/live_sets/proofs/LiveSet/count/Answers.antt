use Rattle.std.proofs.Common.{sym}
use Rattle.live_sets.proofs.BitCounts.{length-members}
use Rattle.live_sets.proofs.LiveSet.count.Goals as goal

pub returns-clause-value : goal.returns-clause-value
returns-clause-value c = rw (← c.self.view_is) (sym (length-members c.self.inside.bits c.self.invariant))
