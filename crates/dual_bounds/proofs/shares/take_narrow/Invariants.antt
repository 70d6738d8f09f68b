use Rattle.std.proofs.Common.{◌≡◌, ◌+ℤ◌, ℕ, pos, drop, length}
use Rattle.std.specs.Prelude.{slice_index_or}
use Rattle.dual_bounds.specs.SharedParts.{AreSmall}
use Rattle.dual_bounds.specs.Vectors.{rows_of, share}
use Rattle.dual_bounds.proofs.shares.take_narrow.Given as goal

abbrev pub invariant-loop-row : goal.invariant-loop-row
invariant-loop-row l = record {
  value : (j : ℕ) → share (rows_of l.model) l.entries j ≡ slice_index_or l.shares j (pos 0) +ℤ share (rows_of l.model) (drop l.row-index l.entries) j;
  small : AreSmall l.shares;
  len : length l.shares ≡ length l.initial.shares;
}
