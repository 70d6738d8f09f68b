use Rattle.std.proofs.Common.{◌≡◌, ◌++◌, drop}
use Rattle.std.specs.Prelude.{flat_map}
use Rattle.tree_log.specs.LogText.{node_lines}
use Rattle.tree_log.proofs.nodes.push_nodes.Given as goal

abbrev pub invariant-loop-node : goal.invariant-loop-node
invariant-loop-node l = l.fn.out.items ++ flat_map (node_lines) l.nodes ≡ l.out.items ++ flat_map (node_lines) (drop l.node-index l.nodes)
