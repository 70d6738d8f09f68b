use Rattle.std.proofs.Common.{◌≡◌, ◌≤◌, ◌*◌, ◌^◌, ◌+ℤ◌, drop, unsigned_abs}
use Rattle.int_model.specs.Boxes.{box_of}
use Rattle.int_model.specs.RowSums.{least_sum, greatest_sum}
use Rattle.activity.proofs.sums.Given as goal

abbrev pub invariant-loop-column : goal.invariant-loop-column
invariant-loop-column l = record {
  least : least_sum l.terms (box_of l.low l.high) ≡ l.least +ℤ least_sum (drop l.column-index l.terms) (box_of l.low l.high);
  most : greatest_sum l.terms (box_of l.low l.high) ≡ l.most +ℤ greatest_sum (drop l.column-index l.terms) (box_of l.low l.high);
  least_limit : unsigned_abs l.least ≤ 10 ^ 15 * l.column-index;
  most_limit : unsigned_abs l.most ≤ 10 ^ 15 * l.column-index;
}
