use Rattle.std.proofs.Common.{◌≡◌, ◌^◌, ◌≤◌, ◌*◌, ◌+ℤ◌, unsigned_abs, drop}
use Rattle.int_model.specs.Integers.{int_sum_by}
use Rattle.dual_search.specs.Gains.{column_gain}
use Rattle.dual_search.proofs.reduced_costs.columns_gain.Given as goal

abbrev pub invariant-loop-column : goal.invariant-loop-column
invariant-loop-column l = record {
  so_far : int_sum_by (column_gain l.step l.costs l.bounds) l.terms ≡ l.gain +ℤ int_sum_by (column_gain l.step l.costs l.bounds) (drop l.column-index l.terms);
  limit : unsigned_abs l.gain ≤ 2 ^ 105 * l.column-index;
}
