use Rattle.std.proofs.Common.{◌≡◌, ◌<◌, ℕ, false}
use Rattle.int_model.specs.RowSums.{row_misses}
use Rattle.scenario_changes.specs.Problems.{problem, program_at}
use Rattle.dive.proofs.conclusion.missed_row.Given as goal

abbrev pub invariant-loop-i : goal.invariant-loop-i
invariant-loop-i l = (k : ℕ) → k < l.i → row_misses (program_at (problem l.problem) l.s) k l.bounds ≡ false
