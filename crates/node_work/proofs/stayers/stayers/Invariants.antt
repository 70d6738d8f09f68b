use Rattle.node_work.proofs.MadeLaws.{StaySoFar}
use Rattle.node_work.proofs.stayers.stayers.Given as goal

abbrev pub invariant-loop-k : goal.invariant-loop-k
invariant-loop-k l = StaySoFar l.cuts l.raised l.k l.stay
