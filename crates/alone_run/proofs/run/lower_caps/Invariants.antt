use Rattle.alone_run.proofs.StepLaws.{LoweredSoFar}
use Rattle.alone_run.proofs.run.lower_caps.Given as goal

abbrev pub invariant-loop-s : goal.invariant-loop-s
invariant-loop-s l = LoweredSoFar l.initial.pool l.pool l.note.view.caps l.s
