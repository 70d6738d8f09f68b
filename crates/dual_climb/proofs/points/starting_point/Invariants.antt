use Rattle.std.proofs.Common.{◌≡◌, length}
use Rattle.dual_climb.proofs.points.starting_point.Given as goal

abbrev pub invariant-loop-t : goal.invariant-loop-t
invariant-loop-t l = length l.point.items ≡ l.t
