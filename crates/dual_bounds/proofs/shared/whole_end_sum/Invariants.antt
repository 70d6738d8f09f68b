use Rattle.std.proofs.Common.{◌≡◌, ◌≤◌, ◌*◌, ◌^◌, ◌+ℤ◌, true, take, drop, unsigned_abs}
use Rattle.dual_bounds.specs.Shared.{have_ends}
use Rattle.dual_bounds.specs.Vectors.{counted, end_sum}
use Rattle.dual_bounds.proofs.shared.whole_end_sum.Given as goal

abbrev pub invariant-loop-row : goal.invariant-loop-row
invariant-loop-row l = record {
  all : have_ends l.ends (take l.row-index l.entries) ≡ true;
  so_far : end_sum l.ends (counted l.ends l.entries) ≡ l.sum +ℤ end_sum l.ends (counted l.ends (drop l.row-index l.entries));
  limit : unsigned_abs l.sum ≤ 2 ^ 103 * l.row-index;
}
