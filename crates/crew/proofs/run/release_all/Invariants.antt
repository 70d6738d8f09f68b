use Rattle.crew.proofs.SharedLaws.{ReleasedSoFar}
use Rattle.crew.proofs.run.release_all.Given as goal

abbrev pub invariant-loop-node : goal.invariant-loop-node
invariant-loop-node l = ReleasedSoFar l.initial.pool l.pool l.node
