use Rattle.std.proofs.Common.{ℕ, ◌<◌, ◌≤ℤ◌}
use Rattle.int_model.specs.Boxes.{interval_at}
use Rattle.branching.proofs.first_wide.Given as goal

abbrev pub invariant-loop-column : goal.invariant-loop-column
invariant-loop-column l = (k : ℕ) → k < l.column → (interval_at l.bounds k).high ≤ℤ (interval_at l.bounds k).low
