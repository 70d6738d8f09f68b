use Rattle.certs.proofs.ArrivalLemmas.{MadeSoFar}
use Rattle.certs.proofs.arriving.children_levels.Given as goal

abbrev pub invariant-loop-k : goal.invariant-loop-k
invariant-loop-k l = MadeSoFar l.stay l.levels l.raised l.k l.made.items
