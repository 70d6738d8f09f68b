use Rattle.std.proofs.Common.{◌≡◌, ◌≤◌, ◌*◌, ◌^◌, ◌+ℤ◌, drop, unsigned_abs}
use Rattle.dual_bounds.specs.Shared.{least_shared}
use Rattle.dual_bounds.proofs.shared.least_shared.Given as goal

abbrev pub invariant-loop-j : goal.invariant-loop-j
invariant-loop-j l = record {
  so_far : least_shared l.scale l.shares 0 l.costs l.bounds ≡ l.sum +ℤ least_shared l.scale l.shares l.j (drop l.j l.costs) (drop l.j l.bounds);
  limit : unsigned_abs l.sum ≤ 2 ^ 84 * l.j;
}
