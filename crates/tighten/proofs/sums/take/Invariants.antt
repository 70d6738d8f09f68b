use Rattle.std.proofs.Common.{◌≡◌, ℕ, ◌<◌, pos, []}
use Rattle.std.specs.Prelude.{slice_index_or}
use Rattle.int_model.specs.RowSums.{least_sum, greatest_sum}
use Rattle.activity.specs.Sums.{SpreadWithin}
use Rattle.tighten.specs.Steps.{rows_of}
use Rattle.tighten.proofs.sums.take.Given as goal

abbrev pub invariant-loop-row : goal.invariant-loop-row
invariant-loop-row l = record {
  least : (i : ℕ) → i < l.row → slice_index_or l.least i (pos 0) ≡ least_sum (slice_index_or (rows_of l.model) i []) l.bounds;
  most : (i : ℕ) → i < l.row → slice_index_or l.most i (pos 0) ≡ greatest_sum (slice_index_or (rows_of l.model) i []) l.bounds;
  spread : (i : ℕ) → i < l.row → SpreadWithin (slice_index_or l.spread i 0) (slice_index_or (rows_of l.model) i []) l.bounds;
}
