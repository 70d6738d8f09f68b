use Rattle.std.proofs.Common.{◌≡◌, ◌≤◌, ◌+◌, drop}
use Rattle.open_pool.specs.Pooled.{count_claimed}
use Rattle.open_pool.proofs.scan.count_claimed.Given as goal

abbrev pub invariant-loop-n : goal.invariant-loop-n
invariant-loop-n l = record {
  whole : count_claimed l.slots ≡ l.count + count_claimed (drop l.n l.slots);
  few : l.count ≤ l.n;
}
