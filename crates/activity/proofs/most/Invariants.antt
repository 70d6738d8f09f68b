use Rattle.std.proofs.Common.{◌≡◌, ◌≤◌, ◌*◌, ◌^◌, ◌+ℤ◌, drop, unsigned_abs}
use Rattle.int_model.specs.Boxes.{box_of}
use Rattle.int_model.specs.RowSums.{greatest_sum}
use Rattle.activity.proofs.most.Given as goal

abbrev pub invariant-loop-column : goal.invariant-loop-column
invariant-loop-column l = record {
  so_far : greatest_sum l.terms (box_of l.low l.high) ≡ l.sum +ℤ greatest_sum (drop l.column-index l.terms) (box_of l.low l.high);
  limit : unsigned_abs l.sum ≤ 10 ^ 15 * l.column-index;
}
