use Rattle.std.proofs.Common.{◌≡◌, ◌++◌}
use Rattle.tighten.specs.Steps.{AreEnds}
use Rattle.node_work.proofs.steps.hull_ends.Given as goal

abbrev pub invariant-loop-s : goal.invariant-loop-s
invariant-loop-s l = record {
  whole : l.yielded ++ l.s-iterator ≡ l.fn.live;
  ends : AreEnds l.problem.model l.ends.items;
}
