use Rattle.std.proofs.Common.{◌≤◌}
use Rattle.dual_search.proofs.longest_row.Given as goal

abbrev pub invariant-loop-row : goal.invariant-loop-row
invariant-loop-row l = l.longest ≤ 1000
