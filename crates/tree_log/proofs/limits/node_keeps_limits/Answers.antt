use Rattle.std.proofs.Common.{sym, subst}
use Rattle.certs.specs.declared.tree.Node.{Node}
use Rattle.tree_log.specs.Laws.{VectorsKeep}
use Rattle.tree_log.proofs.limits.node_keeps_limits.Goals as goal

pub returns-in-Leaf : goal.returns-in-Leaf
returns-in-Leaf c = subst (λ (n : Node). VectorsKeep n) (sym c.in-Leaf.is) c.vectors_keep_limits.ensures

pub returns-in-Split : goal.returns-in-Split
returns-in-Split c = subst (λ (n : Node). VectorsKeep n) (sym c.in-Split.is) c.vectors_keep_limits-in-Split.ensures
