use Rattle.std.proofs.Common.{◌≡◌, ◌≤◌, ◌*◌, ◌^◌, ◌+ℤ◌, drop, unsigned_abs}
use Rattle.int_model.specs.Programs.{row_sum}
use Rattle.scenario_changes.proofs.feasible.row_sum.Given as goal

abbrev pub invariant-loop-column : goal.invariant-loop-column
invariant-loop-column l = record {
  so_far : row_sum l.terms l.x ≡ l.sum +ℤ row_sum (drop l.column-index l.terms) l.x;
  limit : unsigned_abs l.sum ≤ 10 ^ 15 * l.column-index;
}
