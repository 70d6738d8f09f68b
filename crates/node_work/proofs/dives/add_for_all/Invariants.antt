use Rattle.std.proofs.Common.{◌≡◌, ◌++◌}
use Rattle.scenario_changes.specs.Problems.{problem}
use Rattle.node_work.specs.Probes.{AreFound}
use Rattle.node_work.proofs.dives.add_for_all.Given as goal

abbrev pub invariant-loop-s : goal.invariant-loop-s
invariant-loop-s l = record {
  whole : l.yielded ++ l.s-iterator ≡ l.fn.live;
  found : AreFound (problem l.problem) l.found.items;
}
