use Rattle.std.proofs.Common.{◌≡◌, ℕ, pos, ◌+ℤ◌, take}
use Rattle.std.specs.Prelude.{slice_index_or}
use Rattle.int_model.specs.RowSums.{coefficient}
use Rattle.tighten.specs.Sums.{change}
use Rattle.tighten.proofs.sums.shift.Given as goal

abbrev pub invariant-loop-row : goal.invariant-loop-row
invariant-loop-row l = record {
  least : (i : ℕ) → slice_index_or l.least i (pos 0) ≡ slice_index_or l.initial.least i (pos 0) +ℤ change l.low_change l.high_change (coefficient i (take l.row-index l.terms));
  most : (i : ℕ) → slice_index_or l.most i (pos 0) ≡ slice_index_or l.initial.most i (pos 0) +ℤ change l.high_change l.low_change (coefficient i (take l.row-index l.terms));
}
