use Rattle.std.proofs.Common.{◌≡◌, ◌++◌, ◌∷◌, [], List, ℕ, Option, None, is_some, true, length, sym, ap, ◌∙◌, subst}
use Rattle.int_model.specs.Boxes.{Box}
use Rattle.live_sets.specs.Members.{IsLiveList}
use Rattle.scenario_changes.specs.Problems.{problem}
use Rattle.certs.specs.declared.verdict.Verdict.{Verdict}
use Rattle.certs.proofs.StayerLemmas.{go_on, split_at}
use Rattle.node_work.specs.Refusals.{EachRefusal}
use Rattle.node_work.proofs.MadeLaws.{is_none_is, not_none_is}
use Rattle.node_work.proofs.RefusalLaws.{refusals_more}
use Rattle.node_work.proofs.RemainingLaws.{remain_first, remain_skip, remain_keep, all_here}
use Rattle.node_work.proofs.remaining.Remaining.new.Goals as goal

pub loop-s-init : goal.loop-s-init
loop-s-init c =
    let whole : c.into_iter-s-iterator.result ≡ c.args.live = c.into_iter-s-iterator.ensures.into_iter_gives ∙ c.iter-s-items.ensures.members in
    record {
      whole = whole;
      remain = remain_first (problem c.args.problem.now) c.args.bounds.now c.args.cert.now (length c.args.problem.now.model.columns) c.into_iter-s-iterator.result c.none-scenarios.result c.new-boxes.result.items c.none-scenarios.ensures c.new-boxes.ensures.items (subst (λ (xs : List ℕ). IsLiveList xs) (sym whole) c.iter-s-items.ensures.set);
      refusals = subst (λ (rs : List (Option Verdict)). EachRefusal (problem c.args.problem.now) c.args.bounds.now c.args.cert.now.steps [] rs) (sym c.new-refusals.ensures.items) tt;
      part = ap length c.in_ok-part.ensures ∙ c.requires.columns;
    }

pub loop-s-preserved-then-is_none : goal.loop-s-preserved-then-is_none
loop-s-preserved-then-is_none c =
    let whole : c.args.live ≡ c.loop-s.yielded ++ c.in-Some.s ∷ c.next.new.self = split_at c.loop-s.yielded c.loop-s.s-iterator c.next.new.self c.args.live c.in-Some.s c.loop-s.invariant.whole c.in-Some.ensures.steps in
    let none : c.refusal_at-refusal.result ≡ None = is_none_is c.refusal_at-refusal.result c.is_none.result c.is_none.ensures c.if-is_none.true in
    let pushed : c.push-then-is_none.new.self.items ≡ c.loop-s.boxes.items ++ c.refusal_at-refusal.new.part ∷ [] = c.in_ok-push-2.ensures.items ∙ ap (λ (b : Box). c.loop-s.boxes.items ++ b ∷ []) c.in_ok-copy.ensures in
    let refused : EachRefusal (problem c.args.problem.now) c.args.bounds.now c.args.cert.now.steps (c.loop-s.yielded ++ c.in-Some.s ∷ []) (c.loop-s.refusals.items ++ c.refusal_at-refusal.result ∷ []) = refusals_more (problem c.args.problem.now) c.args.bounds.now c.args.cert.now c.loop-s.yielded c.loop-s.refusals.items c.in-Some.s c.refusal_at-refusal.result c.loop-s.invariant.refusals c.refusal_at-refusal.ensures.refusal in
    record {
      whole = go_on c.loop-s.yielded c.loop-s.s-iterator c.next.new.self c.args.live c.in-Some.s c.loop-s.invariant.whole c.in-Some.ensures.steps;
      remain = remain_keep (problem c.args.problem.now) c.args.bounds.now c.args.cert.now (length c.args.problem.now.model.columns) c.loop-s.yielded c.loop-s.s-iterator c.next.new.self c.loop-s.scenarios c.insert.new.self c.loop-s.boxes.items c.push-then-is_none.new.self.items c.in-Some.s c.refusal_at-refusal.new.part c.loop-s.invariant.remain c.in-Some.ensures.steps (c.refusal_at-refusal.ensures.remains none) (all_here (length (problem c.args.problem.now).scenarios) c.args.live c.loop-s.yielded c.in-Some.s c.next.new.self whole c.requires.live) c.refusal_at-refusal.ensures.count (c.refusal_at-refusal.ensures.part none) c.insert.ensures.exact pushed;
      refusals = subst (λ (rs : List (Option Verdict)). EachRefusal (problem c.args.problem.now) c.args.bounds.now c.args.cert.now.steps (c.loop-s.yielded ++ c.in-Some.s ∷ []) rs) (sym c.in_ok-push.ensures.items) refused;
      part = c.refusal_at-refusal.ensures.count;
    }

pub loop-s-preserved : goal.loop-s-preserved
loop-s-preserved c =
    let some : is_some c.refusal_at-refusal.result ≡ true = not_none_is c.refusal_at-refusal.result c.is_none.result c.is_none.ensures c.if-is_none.false in
    let refused : EachRefusal (problem c.args.problem.now) c.args.bounds.now c.args.cert.now.steps (c.loop-s.yielded ++ c.in-Some.s ∷ []) (c.loop-s.refusals.items ++ c.refusal_at-refusal.result ∷ []) = refusals_more (problem c.args.problem.now) c.args.bounds.now c.args.cert.now c.loop-s.yielded c.loop-s.refusals.items c.in-Some.s c.refusal_at-refusal.result c.loop-s.invariant.refusals c.refusal_at-refusal.ensures.refusal in
    record {
      whole = go_on c.loop-s.yielded c.loop-s.s-iterator c.next.new.self c.args.live c.in-Some.s c.loop-s.invariant.whole c.in-Some.ensures.steps;
      remain = remain_skip (problem c.args.problem.now) c.args.bounds.now c.args.cert.now (length c.args.problem.now.model.columns) c.loop-s.yielded c.loop-s.s-iterator c.next.new.self c.loop-s.scenarios c.loop-s.boxes.items c.in-Some.s c.loop-s.invariant.remain c.in-Some.ensures.steps (c.refusal_at-refusal.ensures.leaves some);
      refusals = subst (λ (rs : List (Option Verdict)). EachRefusal (problem c.args.problem.now) c.args.bounds.now c.args.cert.now.steps (c.loop-s.yielded ++ c.in-Some.s ∷ []) rs) (sym c.in_ok-push.ensures.items) refused;
      part = c.refusal_at-refusal.ensures.count;
    }
