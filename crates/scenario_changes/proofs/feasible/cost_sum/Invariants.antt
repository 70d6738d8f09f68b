use Rattle.std.proofs.Common.{◌≡◌, ◌≤◌, ◌*◌, ◌^◌, ◌+ℤ◌, drop, unsigned_abs}
use Rattle.int_model.specs.Integers.{dot}
use Rattle.scenario_changes.proofs.feasible.cost_sum.Given as goal

abbrev pub invariant-loop-j : goal.invariant-loop-j
invariant-loop-j l = record {
  so_far : dot l.costs l.x ≡ l.sum +ℤ dot (drop l.j l.costs) (drop l.j l.x);
  limit : unsigned_abs l.sum ≤ 10 ^ 15 * l.j;
}
