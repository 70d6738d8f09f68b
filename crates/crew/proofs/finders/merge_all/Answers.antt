use Rattle.std.proofs.Common.{◌≡◌, List, [], ◌∷◌, ◌++◌, length, All, sym, ◌∙◌, subst, rules}
use Rattle.finder.specs.Found.{Found}
use Rattle.crew.specs.Crews.{IsOf, IsAsGood, HaveAll}
use Rattle.crew.proofs.Merging.{last_of, front_of, head_of, tail_of, all_snoc, all_cons, all_none, as_good_self, turned, merged, merged_good, all_merged}
use Rattle.crew.proofs.finders.merge_all.Goals as goal

pub loop-other-init : goal.loop-other-init
loop-other-init c =
    let P : Found → Type 0 = IsOf c.args.words.now c.args.problem.now in
    let x : Found = c.in-Some.all in
    let ys : List Found = c.pop.new.self.items in
    let items : c.args.finders.items ≡ ys ++ x ∷ [] = c.in-Some.ensures.items in
    let all = subst (λ (l : List Found). All P l) items c.requires.of in
    record {
      of = last_of P ys x all;
      rest = front_of P ys x all;
      have = λ h. turned ys x (subst HaveAll items h);
      best = λ f h. subst (λ (l : List Found). All (IsAsGood f) l) (sym items) (all_snoc (IsAsGood f) ys x (tail_of (IsAsGood f) x ys h) (head_of (IsAsGood f) x ys h));
    }

pub merge-requires-clause-other : goal.merge-requires-clause-other
merge-requires-clause-other c =
    let P : Found → Type 0 = IsOf c.args.words.now c.args.problem.now in
    let items : c.loop-other.rest.items ≡ c.pop-in-loop-other.new.self.items ++ c.in-Some-pop.other ∷ [] = c.in-Some-pop.ensures.items in
    (last_of P c.pop-in-loop-other.new.self.items c.in-Some-pop.other (subst (λ (l : List Found). All P l) items c.loop-other.invariant.rest)).0

pub merge-requires-clause-problem : goal.merge-requires-clause-problem
merge-requires-clause-problem c =
    let P : Found → Type 0 = IsOf c.args.words.now c.args.problem.now in
    let items : c.loop-other.rest.items ≡ c.pop-in-loop-other.new.self.items ++ c.in-Some-pop.other ∷ [] = c.in-Some-pop.ensures.items in
    (last_of P c.pop-in-loop-other.new.self.items c.in-Some-pop.other (subst (λ (l : List Found). All P l) items c.loop-other.invariant.rest)).1
    ∙ sym c.loop-other.invariant.of.1

pub loop-other-preserved : goal.loop-other-preserved
loop-other-preserved c =
    let P : Found → Type 0 = IsOf c.args.words.now c.args.problem.now in
    let i = c.loop-other.invariant in
    let a : Found = c.loop-other.all in
    let x : Found = c.in-Some-pop.other in
    let m : Found = c.merge.new.self in
    let ys : List Found = c.pop-in-loop-other.new.self.items in
    let items : c.loop-other.rest.items ≡ ys ++ x ∷ [] = c.in-Some-pop.ensures.items in
    let rest = subst (λ (l : List Found). All P l) items i.rest in
    let good = merged_good a x m c.merge.ensures.problem ((last_of P ys x rest).1 ∙ sym i.of.1) c.merge.ensures.offers in
    record {
      of = (c.merge.ensures.table ∙ i.of.0, c.merge.ensures.problem ∙ i.of.1);
      rest = front_of P ys x rest;
      have = λ h. merged a x m ys c.merge.ensures.view (subst (λ (l : List Found). HaveAll (a ∷ l)) items (i.have h));
      best = λ f h. i.best f (subst (λ (l : List Found). All (IsAsGood f) (a ∷ l)) (sym items) (all_merged f a x m ys good h));
    }

pub returns-clause-best : goal.returns-clause-best
returns-clause-best c =
    let all : Found = c.loop-other.all in
    let none : length c.loop-other.rest.items ≡ 0 = search rules in
    c.loop-other.invariant.best all (all_cons (IsAsGood all) all c.loop-other.rest.items (as_good_self all) (all_none (IsAsGood all) c.loop-other.rest.items none))
