use Rattle.std.proofs.Common.{◌<◌, ℕ, ◌≤ℤ◌, get_or, pos}
use Rattle.plain_search.proofs.search.wide_column.Given as goal

abbrev pub invariant-loop-j : goal.invariant-loop-j
invariant-loop-j l = (k : ℕ) → k < l.j → get_or l.highs k (pos 0) ≤ℤ get_or l.lows k (pos 0)
