use Rattle.std.proofs.Common.{◌<◌, ◌≤ℤ◌, ℕ, get_or, pos}
use Rattle.dive.proofs.tests.lies_in_bounds.Given as goal

abbrev pub invariant-loop-j : goal.invariant-loop-j
invariant-loop-j l = record {
  lows : (k : ℕ) → k < l.j → get_or l.lows k (pos 0) ≤ℤ get_or l.box_lows k (pos 0);
  highs : (k : ℕ) → k < l.j → get_or l.box_highs k (pos 0) ≤ℤ get_or l.highs k (pos 0);
}
