use Rattle.std.proofs.Common.{◌≡◌, ◌++◌, length}
use Rattle.scenario_changes.specs.Problems.{problem}
use Rattle.node_work.specs.Refusals.{EachRefusal}
use Rattle.node_work.proofs.RemainingLaws.{RemainSoFar}
use Rattle.node_work.proofs.remaining.Remaining.new.Given as goal

abbrev pub invariant-loop-s : goal.invariant-loop-s
invariant-loop-s l = record {
  whole : l.yielded ++ l.s-iterator ≡ l.fn.live;
  remain : RemainSoFar (problem l.problem) l.bounds l.cert (length l.problem.model.columns) l.yielded l.s-iterator l.scenarios l.boxes.items;
  refusals : EachRefusal (problem l.problem) l.bounds l.cert.steps l.yielded l.refusals.items;
  part : length l.part ≡ length l.problem.model.columns;
}
