use Rattle.std.proofs.Common.{◌≡◌, ◌≤◌, ◌*◌, ◌^◌, ◌+ℤ◌, drop, unsigned_abs}
use Rattle.int_model.specs.Boxes.{box_of}
use Rattle.int_model.specs.RowSums.{least_sum}
use Rattle.activity.proofs.least.Given as goal

abbrev pub invariant-loop-column : goal.invariant-loop-column
invariant-loop-column l = record {
  so_far : least_sum l.terms (box_of l.low l.high) ≡ l.sum +ℤ least_sum (drop l.column-index l.terms) (box_of l.low l.high);
  limit : unsigned_abs l.sum ≤ 10 ^ 15 * l.column-index;
}
