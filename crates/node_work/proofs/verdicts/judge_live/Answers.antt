use Rattle.std.proofs.Common.{◌≡◌, ◌++◌, ◌∷◌, [], Option, sym, ap, subst, ◌∙◌}
use Rattle.std.specs.Arc.{arc_value}
use Rattle.scenario_changes.specs.Problems.{problem}
use Rattle.certs.specs.declared.verdict.Verdict.{Verdict}
use Rattle.certs.proofs.StayerLemmas.{go_on, split_at}
use Rattle.live_sets.proofs.RisingLists.{In}
use Rattle.node_work.specs.Probes.{lows_of}
use Rattle.node_work.specs.Refusals.{IsRefusal}
use Rattle.node_work.proofs.ChoiceLaws.{good-next, best-next, kept_found}
use Rattle.node_work.proofs.HullLaws.{in_here}
use Rattle.node_work.proofs.RefusalLaws.{IsNext, IsSettled, next_refusal, settled, unrefused}
use Rattle.node_work.proofs.verdicts.judge_live.Goals as goal

pub judge_one-requires-clause-remains : goal.judge_one-requires-clause-remains
judge_one-requires-clause-remains c =
    let whole : c.args.work.now.live ≡ c.loop-s.yielded ++ c.in-Some.s ∷ c.next.new.self = split_at c.loop-s.yielded c.loop-s.s-iterator c.next.new.self c.args.work.now.live c.in-Some.s c.loop-s.invariant.whole c.in-Some.ensures.steps in
    let member : In c.args.work.now.live c.in-Some.s = in_here c.args.work.now.live c.loop-s.yielded c.in-Some.s c.next.new.self whole in
    let next : IsNext (problem c.args.problem.now) (arc_value c.args.work.now.bounds) c.args.cert.now c.args.remaining.now.refusals.items c.loop-s.i c.in-Some.s c.next.new.self = next_refusal (problem c.args.problem.now) (arc_value c.args.work.now.bounds) c.args.cert.now c.args.remaining.now.refusals.items c.loop-s.i c.in-Some.s c.next.new.self c.loop-s.s-iterator c.in-Some.ensures.steps c.loop-s.invariant.left in
    let here : IsRefusal (problem c.args.problem.now) (arc_value c.args.work.now.bounds) c.args.cert.now.steps c.in-Some.s c.index.result.now = subst (λ (r : Option Verdict). IsRefusal (problem c.args.problem.now) (arc_value c.args.work.now.bounds) c.args.cert.now.steps c.in-Some.s r) (sym c.index.ensures) (next.here c.index.result.now) in
    unrefused (problem c.args.problem.now) (arc_value c.args.work.now.bounds) c.args.cert.now c.args.work.now.live c.args.remaining.now.scenarios c.args.remaining.now.boxes.items c.in-Some.s c.index.result.now c.requires.scenarios c.requires.boxes member here

pub loop-s-preserved : goal.loop-s-preserved
loop-s-preserved c =
    let whole : c.args.work.now.live ≡ c.loop-s.yielded ++ c.in-Some.s ∷ c.next.new.self = split_at c.loop-s.yielded c.loop-s.s-iterator c.next.new.self c.args.work.now.live c.in-Some.s c.loop-s.invariant.whole c.in-Some.ensures.steps in
    let member : In c.args.work.now.live c.in-Some.s = in_here c.args.work.now.live c.loop-s.yielded c.in-Some.s c.next.new.self whole in
    let next : IsNext (problem c.args.problem.now) (arc_value c.args.work.now.bounds) c.args.cert.now c.args.remaining.now.refusals.items c.loop-s.i c.in-Some.s c.next.new.self = next_refusal (problem c.args.problem.now) (arc_value c.args.work.now.bounds) c.args.cert.now c.args.remaining.now.refusals.items c.loop-s.i c.in-Some.s c.next.new.self c.loop-s.s-iterator c.in-Some.ensures.steps c.loop-s.invariant.left in
    let here : IsRefusal (problem c.args.problem.now) (arc_value c.args.work.now.bounds) c.args.cert.now.steps c.in-Some.s c.index.result.now = subst (λ (r : Option Verdict). IsRefusal (problem c.args.problem.now) (arc_value c.args.work.now.bounds) c.args.cert.now.steps c.in-Some.s r) (sym c.index.ensures) (next.here c.index.result.now) in
    let j : IsSettled (problem c.args.problem.now) (arc_value c.args.work.now.bounds) c.args.cert.now c.in-Some.s c.loop-s.found.items c.in_ok-verdict.verdict c.judge_one.new.found.items = settled (problem c.args.problem.now) (arc_value c.args.work.now.bounds) c.args.cert.now c.args.work.now.live c.args.remaining.now.scenarios c.args.remaining.now.boxes.items c.in-Some.s c.index.result.now c.requires.scenarios c.requires.boxes member here c.requires.parts c.loop-s.found.items c.in_ok-verdict.verdict c.judge_one.new.found.items c.in_ok-verdict.ensures in
    let pushed : c.push.new.self.items ≡ c.loop-s.verdicts.items ++ j.choice.verdict ∷ [] = c.in_ok-push.ensures.items ∙ ap (λ (v : Verdict). c.loop-s.verdicts.items ++ v ∷ []) j.is in
    record {
      whole = go_on c.loop-s.yielded c.loop-s.s-iterator c.next.new.self c.args.work.now.live c.in-Some.s c.loop-s.invariant.whole c.in-Some.ensures.steps;
      left = next.rest;
      good = good-next (problem c.args.problem.now) (arc_value c.args.work.now.bounds) c.args.cert.now c.loop-s.yielded c.loop-s.verdicts.items c.push.new.self.items c.loop-s.found.items c.judge_one.new.found.items c.in-Some.s j.choice j.is_point j.now c.loop-s.invariant.good j.concluded j.kept pushed;
      best = best-next (problem c.args.problem.now) (arc_value c.args.work.now.bounds) c.args.cert.now c.loop-s.yielded c.loop-s.verdicts.items c.push.new.self.items c.in-Some.s j.choice j.is_point j.now c.loop-s.invariant.best j.concluded pushed;
      found = kept_found (problem c.args.problem.now) c.loop-s.found.items c.judge_one.new.found.items c.in-Some.s (lows_of j.now) j.is_point j.kept c.loop-s.invariant.found j.concluded.feasible;
    }
