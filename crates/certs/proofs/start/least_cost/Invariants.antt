use Rattle.std.proofs.Common.{◌≡◌, ◌≤◌, ◌*◌, ◌^◌, ◌+ℤ◌, drop, unsigned_abs}
use Rattle.int_model.specs.Boxes.{box_of}
use Rattle.certs.specs.Costs.{least_cost}
use Rattle.certs.proofs.start.least_cost.Given as goal

abbrev pub invariant-loop-j : goal.invariant-loop-j
invariant-loop-j l = record {
  so_far : least_cost l.costs (box_of l.lows l.highs) ≡ l.sum +ℤ least_cost (drop l.j l.costs) (box_of (drop l.j l.lows) (drop l.j l.highs));
  limit : unsigned_abs l.sum ≤ 10 ^ 15 * l.j;
}
