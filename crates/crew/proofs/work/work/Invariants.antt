use Rattle.alone_run.specs.Turns.{IsNoWorse}
use Rattle.crew.proofs.work.work.Given as goal

abbrev pub invariant-loop : goal.invariant-loop
invariant-loop g l = IsNoWorse l.initial.finder l.finder
