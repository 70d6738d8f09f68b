use Rattle.std.proofs.Common.{◌≡◌, ℕ, ◌<◌, pos, length, get_or}
use Rattle.dual_climb.specs.Climbs.{IsFixedWithin}
use Rattle.dual_climb.proofs.points.within_sides.Given as goal

abbrev pub invariant-loop-j : goal.invariant-loop-j
invariant-loop-j l = record {
  count : length l.within.items ≡ l.j;
  each : (k : ℕ) → k < l.j → IsFixedWithin (get_or l.lows k (pos 0)) (get_or l.highs k (pos 0)) (get_or l.within.items k (pos 0));
}
