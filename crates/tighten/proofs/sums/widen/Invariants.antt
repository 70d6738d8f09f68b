use Rattle.std.proofs.Common.{ℕ, ◌≤◌, ◌*◌, take, unsigned_abs}
use Rattle.std.specs.Prelude.{slice_index_or}
use Rattle.int_model.specs.RowSums.{coefficient}
use Rattle.tighten.proofs.sums.widen.Given as goal

abbrev pub invariant-loop-row : goal.invariant-loop-row
invariant-loop-row l = record {
  grown : (i : ℕ) → slice_index_or l.initial.spread i 0 ≤ slice_index_or l.spread i 0;
  wide : (i : ℕ) → unsigned_abs (coefficient i (take l.row-index l.terms)) * l.width ≤ slice_index_or l.spread i 0;
}
