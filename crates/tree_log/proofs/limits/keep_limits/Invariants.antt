use Rattle.std.proofs.Common.{◌≡◌, ◌<◌, ℕ, Some, slice_get}
use Rattle.certs.specs.declared.tree.Node.{Node}
use Rattle.tree_log.specs.Laws.{VectorsKeep}
use Rattle.tree_log.proofs.limits.keep_limits.Given as goal

abbrev pub invariant-loop-node : goal.invariant-loop-node
invariant-loop-node l = (i : ℕ) (node : Node) → i < l.node-index → slice_get l.nodes i ≡ Some node → VectorsKeep node
