use Rattle.std.proofs.Common.{arith}
use Rattle.std.proofs.lemmas.Int.{ints, clamps}
use Rattle.dual_climb.proofs.points.clamped.Goals as goal

pub returns : goal.returns
returns c = record {
  low = omega (arith, ints, clamps);
  high = omega (arith, ints, clamps);
}
