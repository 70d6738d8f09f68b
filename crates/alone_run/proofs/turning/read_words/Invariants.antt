use Rattle.alone_run.specs.Turns.{HasLooked}
use Rattle.alone_run.proofs.turning.read_words.Given as goal

abbrev pub invariant-loop-s : goal.invariant-loop-s
invariant-loop-s l = HasLooked l.initial.finder l.finder
