use Rattle.std.proofs.Common.{◌≡◌, ◌++◌, drop}
use Rattle.std.specs.Arc.{arc_value}
use Rattle.scenario_changes.specs.Problems.{problem}
use Rattle.node_work.specs.Probes.{EachLive, IsGoodVerdict, IsBestVerdict, AreFound}
use Rattle.node_work.specs.Refusals.{EachRefusal}
use Rattle.node_work.proofs.verdicts.judge_live.Given as goal

abbrev pub invariant-loop-s : goal.invariant-loop-s
invariant-loop-s l = record {
  whole : l.yielded ++ l.s-iterator ≡ l.work.live;
  left : EachRefusal (problem l.problem) (arc_value l.work.bounds) l.cert.steps l.s-iterator (drop l.i l.remaining.refusals.items);
  good : EachLive (IsGoodVerdict (problem l.problem) (arc_value l.work.bounds) l.cert l.found.items) l.yielded l.verdicts.items;
  best : EachLive (IsBestVerdict (problem l.problem) (arc_value l.work.bounds) l.cert) l.yielded l.verdicts.items;
  found : AreFound (problem l.problem) l.found.items;
}
