use Rattle.std.proofs.Common.{◌≡◌, vec_capacity}
use Rattle.open_pool.specs.Pooled.{nodes_of}
use Rattle.open_pool.proofs.pool.Pool.into_tree.Given as goal

abbrev pub invariant-loop-slot : goal.invariant-loop-slot
invariant-loop-slot l = record {
  nodes : l.tree.items ≡ nodes_of l.yielded;
  room : vec_capacity l.tree ≡ vec_capacity l.initial.tree;
}
