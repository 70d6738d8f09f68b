use Rattle.std.proofs.Common.{◌≡◌, ◌≤◌, length, drop}
use Rattle.certs.specs.Trees.{of_live}
use Rattle.open_pool.specs.Marks.{least_live}
use Rattle.open_pool.proofs.levels.least_of.Given as goal

abbrev pub invariant-loop-k : goal.invariant-loop-k
invariant-loop-k l = record {
  below : l.k ≤ length l.levels;
  so_far : l.least ≡ least_live (drop l.k (of_live l.live 0 l.levels));
}

abbrev pub decreases-loop-k : goal.decreases-loop-k
decreases-loop-k l = l.k
