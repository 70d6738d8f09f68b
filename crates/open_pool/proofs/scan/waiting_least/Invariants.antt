use Rattle.std.proofs.Common.{◌≡◌, ◌≤◌, length, drop}
use Rattle.open_pool.specs.Ends.{waiting_bound}
use Rattle.open_pool.proofs.scan.waiting_least.Given as goal

abbrev pub invariant-loop-n : goal.invariant-loop-n
invariant-loop-n l = record {
  below : l.n ≤ length l.slots;
  so_far : l.least ≡ waiting_bound l.s (drop l.n l.slots);
}

abbrev pub decreases-loop-n : goal.decreases-loop-n
decreases-loop-n l = l.n
