use Rattle.tighten.specs.Steps.{AreEnds}
use Rattle.node_work.proofs.steps.widen.Given as goal

abbrev pub invariant-loop-i : goal.invariant-loop-i
invariant-loop-i l = AreEnds l.problem.model l.ends
