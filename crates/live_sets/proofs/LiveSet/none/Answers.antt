use Rattle.live_sets.proofs.BitSets.{members-zero}
use Rattle.live_sets.proofs.LiveSet.none.Goals as goal

pub returns : goal.returns
returns c = members-zero
