use Rattle.std.proofs.Common.{arith, ◌≡◌, ◌++◌, ◌∷◌, [], List, ℕ, Some, None, length, sym, ap, ◌∙◌}
use Rattle.int_model.specs.Boxes.{Box, is_empty}
use Rattle.scenario_changes.specs.Problems.{problem}
use Rattle.certs.specs.Trees.{stayers_hull}
use Rattle.certs.proofs.TreeLaws.{length-hull_of}
use Rattle.certs.proofs.StayerLemmas.{so_far_begun, so_far_none, so_far_next, box_at, box_here, box_past, no_hull_after, hull_first, hull_next, hull_occupied, go_on, split_at}
use Rattle.certs.proofs.stayers.hull_stayers.Goals as goal

pub returns-then-s-count-clause-no : goal.returns-then-s-count-clause-no
returns-then-s-count-clause-no c = λ _.
    let whole : c.args.stay ≡ c.loop-s.yielded ++ c.in-Some.s ∷ c.next.new.self = split_at c.loop-s.yielded c.loop-s.s-iterator c.next.new.self c.args.stay c.in-Some.s c.loop-s.invariant.whole c.in-Some.ensures.steps in
    let none : box_at (problem c.args.problem.now) c.args.bounds.now c.args.cert.now c.in-Some.s ≡ None = box_past (problem c.args.problem.now) c.args.bounds.now c.args.cert.now c.in-Some.s (omega (arith, c.if-s-count.true, c.count.ensures.count)) in
    ap (λ (ks : List ℕ). stayers_hull (problem c.args.problem.now) c.args.bounds.now c.args.cert.now ks) whole ∙ no_hull_after (problem c.args.problem.now) c.args.bounds.now c.args.cert.now c.loop-s.yielded c.in-Some.s c.next.new.self none

pub returns-then-not-is_stayer-clause-no : goal.returns-then-not-is_stayer-clause-no
returns-then-not-is_stayer-clause-no c = λ _.
    let whole : c.args.stay ≡ c.loop-s.yielded ++ c.in-Some.s ∷ c.next.new.self = split_at c.loop-s.yielded c.loop-s.s-iterator c.next.new.self c.args.stay c.in-Some.s c.loop-s.invariant.whole c.in-Some.ensures.steps in
    let none : box_at (problem c.args.problem.now) c.args.bounds.now c.args.cert.now c.in-Some.s ≡ None = box_here (problem c.args.problem.now) c.args.bounds.now c.args.cert.now c.in-Some.s None (omega (arith, c.if-s-count.false, c.count.ensures.count)) (c.is_stayer.ensures.no c.if-not-is_stayer.true) in
    ap (λ (ks : List ℕ). stayers_hull (problem c.args.problem.now) c.args.bounds.now c.args.cert.now ks) whole ∙ no_hull_after (problem c.args.problem.now) c.args.bounds.now c.args.cert.now c.loop-s.yielded c.in-Some.s c.next.new.self none

pub returns-then-not-is_stayer-2-clause-no : goal.returns-then-not-is_stayer-2-clause-no
returns-then-not-is_stayer-2-clause-no c = λ _.
    let whole : c.args.stay ≡ c.loop-s.yielded ++ c.in-Some.s ∷ c.next.new.self = split_at c.loop-s.yielded c.loop-s.s-iterator c.next.new.self c.args.stay c.in-Some.s c.loop-s.invariant.whole c.in-Some.ensures.steps in
    let none : box_at (problem c.args.problem.now) c.args.bounds.now c.args.cert.now c.in-Some.s ≡ None = box_here (problem c.args.problem.now) c.args.bounds.now c.args.cert.now c.in-Some.s None (omega (arith, c.if-s-count.false, c.count.ensures.count)) (c.is_stayer-else-is_begun.ensures.no c.if-not-is_stayer-2.true) in
    ap (λ (ks : List ℕ). stayers_hull (problem c.args.problem.now) c.args.bounds.now c.args.cert.now ks) whole ∙ no_hull_after (problem c.args.problem.now) c.args.bounds.now c.args.cert.now c.loop-s.yielded c.in-Some.s c.next.new.self none

pub loop-s-preserved-then-is_begun : goal.loop-s-preserved-then-is_begun
loop-s-preserved-then-is_begun c =
    let before = so_far_begun (problem c.args.problem.now) c.args.bounds.now c.args.cert.now c.loop-s.yielded c.loop-s.is_begun c.loop-s.hull c.if-is_begun.true c.loop-s.invariant.so_far in
    let here : box_at (problem c.args.problem.now) c.args.bounds.now c.args.cert.now c.in-Some.s ≡ Some c.is_stayer.new.part = box_here (problem c.args.problem.now) c.args.bounds.now c.args.cert.now c.in-Some.s (Some c.is_stayer.new.part) (omega (arith, c.if-s-count.false, c.count.ensures.count)) (c.is_stayer.ensures.yes c.if-not-is_stayer.false) in
    let next = hull_next (problem c.args.problem.now) c.args.bounds.now c.args.cert.now c.loop-s.yielded c.in-Some.s c.loop-s.hull c.is_stayer.new.part before.0 here in
    let long : length c.loop-s.hull ≡ length c.is_stayer.new.part = c.loop-s.invariant.hull ∙ sym c.is_stayer.ensures.count in
    let occupied = hull_occupied c.loop-s.hull c.is_stayer.new.part long before.1 (c.is_stayer.ensures.occupied c.if-not-is_stayer.false) in
    record {
      whole = go_on c.loop-s.yielded c.loop-s.s-iterator c.next.new.self c.args.stay c.in-Some.s c.loop-s.invariant.whole c.in-Some.ensures.steps;
      so_far = so_far_next (problem c.args.problem.now) c.args.bounds.now c.args.cert.now (c.loop-s.yielded ++ c.in-Some.s ∷ []) c.loop-s.is_begun c.hull.new.self c.if-is_begun.true (next ∙ ap (λ (b : Box). Some b) (sym c.hull.ensures), ap is_empty c.hull.ensures ∙ occupied);
      hull = ap length c.hull.ensures ∙ length-hull_of (length c.args.problem.now.model.columns) c.loop-s.hull (c.is_stayer.new.part ∷ []) (c.loop-s.invariant.hull, (c.is_stayer.ensures.count, tt));
      replay = c.is_stayer.ensures.count;
    }

pub loop-s-preserved : goal.loop-s-preserved
loop-s-preserved c =
    let none : c.loop-s.yielded ≡ [] = so_far_none (problem c.args.problem.now) c.args.bounds.now c.args.cert.now c.loop-s.yielded c.loop-s.is_begun c.loop-s.hull c.if-is_begun.false c.loop-s.invariant.so_far in
    let here : box_at (problem c.args.problem.now) c.args.bounds.now c.args.cert.now c.in-Some.s ≡ Some c.is_stayer-else-is_begun.new.part = box_here (problem c.args.problem.now) c.args.bounds.now c.args.cert.now c.in-Some.s (Some c.is_stayer-else-is_begun.new.part) (omega (arith, c.if-s-count.false, c.count.ensures.count)) (c.is_stayer-else-is_begun.ensures.yes c.if-not-is_stayer-2.false) in
    record {
      whole = go_on c.loop-s.yielded c.loop-s.s-iterator c.next.new.self c.args.stay c.in-Some.s c.loop-s.invariant.whole c.in-Some.ensures.steps;
      so_far = (hull_first (problem c.args.problem.now) c.args.bounds.now c.args.cert.now c.loop-s.yielded c.in-Some.s c.is_stayer-else-is_begun.new.part none here, c.is_stayer-else-is_begun.ensures.occupied c.if-not-is_stayer-2.false);
      hull = c.is_stayer-else-is_begun.ensures.count;
      replay = c.loop-s.invariant.replay;
    }
