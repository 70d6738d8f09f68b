use Rattle.dive.specs.Moves.{AreMoves}
use Rattle.dive.proofs.improving.improved.Given as goal

abbrev pub invariant-loop-column : goal.invariant-loop-column
invariant-loop-column l = AreMoves l.problem.model l.moves

abbrev pub invariant-loop-column-2 : goal.invariant-loop-column-2
invariant-loop-column-2 l = AreMoves l.problem.model l.moves

abbrev pub invariant-loop : goal.invariant-loop
invariant-loop l = AreMoves l.problem.model l.moves
