use Rattle.std.proofs.Common.{◌≡◌, ◌≤◌, ◌+◌, ◌*◌, ◌^◌, ◌+ℤ◌, drop, unsigned_abs}
use Rattle.dual_bounds.specs.Vectors.{counted, least_reduced, rows_of, vector_sum}
use Rattle.dual_bounds.proofs.bounding.evaluate.Given as goal

abbrev pub invariant-loop-j : goal.invariant-loop-j
invariant-loop-j l = record {
  so_far : vector_sum (rows_of l.model) l.ends l.costs l.vector l.bounds ≡ l.sum +ℤ least_reduced (rows_of l.model) l.vector.scale (counted l.ends l.vector.entries) l.j (drop l.j l.costs) (drop l.j l.bounds);
  limit : unsigned_abs l.sum ≤ 2 ^ 110 + 2 ^ 104 * l.j;
}
