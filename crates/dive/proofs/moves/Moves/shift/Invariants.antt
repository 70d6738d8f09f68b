use Rattle.dive.specs.Moves.{AreMoves}
use Rattle.dive.proofs.moves.Moves.shift.Given as goal

abbrev pub invariant-loop-row : goal.invariant-loop-row
invariant-loop-row l = AreMoves l.model l.self
