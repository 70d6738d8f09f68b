use Rattle.std.proofs.Common.{◌≡◌, ◌≤◌, ◌<◌, ◌∙◌, ◌++◌, ◌∷◌, [], sym, subst, ap, arith, length, ℕ, ℤ, List}
use Rattle.scenario_changes.specs.Problems.{problem}
use Rattle.finder.specs.Found.{value_code}
use Rattle.alone_run.specs.Turns.{AreOffered, ArePointsBelow}
use Rattle.alone_run.proofs.BestLaws.{worse_then}
use Rattle.alone_run.proofs.TurnLaws.{offered_worse, offered_more, below_kept, below_left}
use Rattle.alone_run.proofs.turning.offer_all.Goals as goal

pub loop-s-preserved-in-Continue-1 : goal.loop-s-preserved-in-Continue-1
loop-s-preserved-in-Continue-1 c =
    let s : ℕ = c.in-Some.s in
    let x : List ℤ = c.in-Some.point in
    let seen : c.as_slice.result.now ≡ x = c.as_slice.ensures in
    let code : ℕ = value_code c.loop-s.finder.problem s c.as_slice.result.now in
    let i = c.loop-s.invariant in
    let count : ℕ = length (problem c.args.problem.now).scenarios in
    let below : s < count = omega (arith, c.if-s-count.true, c.count.ensures.count) in
    let pushed : c.push.new.self.items ≡ c.loop-s.offered.items ++ (s, x) ∷ [] = c.in_ok-push.ensures.items in
    record {
      finder = worse_then c.args.finder.now c.loop-s.finder c.offer.new.self i.finder (offered_worse c.loop-s.finder c.offer.new.self s code c.offer.ensures.same c.offer.ensures.offered);
      offered = subst (AreOffered c.offer.new.self) (ap (λ (y : List ℤ). c.loop-s.offered.items ++ (s, y) ∷ []) seen ∙ sym pushed) (offered_more c.loop-s.finder c.offer.new.self c.loop-s.offered.items s c.as_slice.result.now c.offer.ensures.same c.offer.ensures.offered i.offered);
      points = subst (ArePointsBelow count (c.loop-s.yielded ++ (s, x) ∷ [])) (sym pushed) (below_kept count c.loop-s.yielded c.loop-s.offered.items s x i.points below);
    }

pub returns-in_err-push-clause-finder : goal.returns-in_err-push-clause-finder
returns-in_err-push-clause-finder c =
    worse_then c.args.finder.now c.loop-s.finder c.offer.new.self c.loop-s.invariant.finder
    (offered_worse c.loop-s.finder c.offer.new.self c.in-Some.s (value_code c.loop-s.finder.problem c.in-Some.s c.as_slice.result.now) c.offer.ensures.same c.offer.ensures.offered)

pub loop-s-preserved : goal.loop-s-preserved
loop-s-preserved c =
    let i = c.loop-s.invariant in
    let count : ℕ = length (problem c.args.problem.now).scenarios in
    let past : count ≤ c.in-Some.s = omega (arith, c.if-s-count.false, c.count.ensures.count) in
    record {
      finder = i.finder;
      offered = i.offered;
      points = below_left count c.loop-s.yielded c.loop-s.offered.items c.in-Some.s c.in-Some.point i.points past;
    }
