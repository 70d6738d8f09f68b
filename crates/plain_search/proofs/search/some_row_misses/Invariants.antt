use Rattle.std.proofs.Common.{◌≡◌, ◌<◌, ℕ, false}
use Rattle.int_model.specs.RowSums.{row_misses}
use Rattle.plain_search.specs.Searches.{program_over}
use Rattle.plain_search.proofs.search.some_row_misses.Given as goal

abbrev pub invariant-loop-i : goal.invariant-loop-i
invariant-loop-i l = (k : ℕ) → k < l.i → row_misses (program_over l.problem l.s l.bounds) k l.bounds ≡ false
