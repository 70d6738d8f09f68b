use Rattle.std.proofs.Common.{◌≡◌, ◌≤◌, ◌+◌, drop}
use Rattle.open_pool.specs.Pooled.{count_open}
use Rattle.open_pool.proofs.scan.count_open.Given as goal

abbrev pub invariant-loop-n : goal.invariant-loop-n
invariant-loop-n l = record {
  whole : count_open l.slots ≡ l.count + count_open (drop l.n l.slots);
  few : l.count ≤ l.n;
}
