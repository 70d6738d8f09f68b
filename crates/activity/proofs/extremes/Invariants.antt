use Rattle.std.proofs.Common.{◌≡◌, ◌≤◌, ◌<◌, ◌*◌, ◌^◌, ◌+ℤ◌, ◌≤ℤ◌, ℕ, pos, drop, unsigned_abs}
use Rattle.std.specs.Prelude.{slice_index_or}
use Rattle.activity.specs.Sums.{spread}
use Rattle.int_model.specs.Boxes.{box_of}
use Rattle.int_model.specs.RowSums.{least_sum, greatest_sum}
use Rattle.activity.proofs.extremes.Given as goal

abbrev pub invariant-loop-column : goal.invariant-loop-column
invariant-loop-column l = record {
  least : least_sum l.terms (box_of l.low l.high) ≡ l.least +ℤ least_sum (drop l.column-index l.terms) (box_of l.low l.high);
  most : greatest_sum l.terms (box_of l.low l.high) ≡ l.most +ℤ greatest_sum (drop l.column-index l.terms) (box_of l.low l.high);
  least_limit : unsigned_abs l.least ≤ 10 ^ 15 * l.column-index;
  most_limit : unsigned_abs l.most ≤ 10 ^ 15 * l.column-index;
  spread : (k : ℕ) → k < l.column-index → spread (slice_index_or l.terms k (0, pos 0)) (box_of l.low l.high) ≤ℤ pos l.spread;
}
