use Rattle.std.proofs.Common.{◌≤◌}
use Rattle.dive.proofs.moves.Moves.reach.Given as goal

abbrev pub invariant-loop-row : goal.invariant-loop-row
invariant-loop-row l = l.reach ≤ l.most
