use Rattle.scenario_changes.specs.Problems.{problem}
use Rattle.certs.proofs.StayerLemmas.{go_on}
use Rattle.node_work.proofs.ChoiceLaws.{kept_found}
use Rattle.node_work.proofs.dives.add_for_all.Goals as goal

pub loop-s-preserved : goal.loop-s-preserved
loop-s-preserved c = record {
  whole = go_on c.loop-s.yielded c.loop-s.s-iterator c.next.new.self c.args.live c.in-Some.s c.loop-s.invariant.whole c.in-Some.ensures.steps;
  found = kept_found (problem c.args.problem.now) c.loop-s.found.items c.keep_copy.new.found.items c.in-Some.s c.args.x.now c.is_useful-is_point.result c.in_ok-keep_copy.ensures c.loop-s.invariant.found c.is_useful-is_point.ensures;
}
