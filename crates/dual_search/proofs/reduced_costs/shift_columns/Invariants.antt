use Rattle.std.proofs.Common.{◌≡◌, ℕ, ◌+◌, ◌*◌, ◌^◌, ◌≤◌, ◌-ℤ◌, ◌*ℤ◌, unsigned_abs, drop}
use Rattle.int_model.specs.Integers.{int_at}
use Rattle.int_model.specs.RowSums.{coefficient}
use Rattle.dual_search.proofs.reduced_costs.shift_columns.Given as goal

abbrev pub invariant-loop-column : goal.invariant-loop-column
invariant-loop-column l = record {
  values : (j : ℕ) → int_at l.initial.costs j -ℤ l.step *ℤ coefficient j l.terms ≡ int_at l.costs j -ℤ l.step *ℤ coefficient j (drop l.column-index l.terms);
  limit : (j : ℕ) → unsigned_abs (int_at l.costs j) ≤ 2 ^ 80 + 2 ^ 71 * l.column-index;
}
