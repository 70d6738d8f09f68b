use Rattle.std.proofs.Common.{◌≡◌, ◌++◌, ◌∷◌, [], Some, length, sym, ap, ◌∙◌}
use Rattle.int_model.specs.Boxes.{Box, is_empty, is_single}
use Rattle.scenario_changes.specs.Problems.{problem}
use Rattle.certs.proofs.TreeLaws.{length-hull_of}
use Rattle.certs.proofs.StayerLemmas.{so_far_begun, so_far_none, so_far_next, box_at, box_here, hull_first, hull_next, hull_occupied, go_on, split_at}
use Rattle.node_work.proofs.HullLaws.{member_at, hull_several}
use Rattle.node_work.proofs.stayers.hull_stayers.Goals as goal

pub replay_open-requires-clause-open : goal.replay_open-requires-clause-open
replay_open-requires-clause-open c =
    let whole : c.args.stay ≡ c.loop-s.yielded ++ c.in-Some.s ∷ c.next.new.self = split_at c.loop-s.yielded c.loop-s.s-iterator c.next.new.self c.args.stay c.in-Some.s c.loop-s.invariant.whole c.in-Some.ensures.steps in
    c.requires.open c.in-Some.s (member_at c.args.stay c.loop-s.yielded c.in-Some.s c.next.new.self whole)

pub replay_open-requires-else-is_begun-clause-open : goal.replay_open-requires-else-is_begun-clause-open
replay_open-requires-else-is_begun-clause-open c =
    let whole : c.args.stay ≡ c.loop-s.yielded ++ c.in-Some.s ∷ c.next.new.self = split_at c.loop-s.yielded c.loop-s.s-iterator c.next.new.self c.args.stay c.in-Some.s c.loop-s.invariant.whole c.in-Some.ensures.steps in
    c.requires.open c.in-Some.s (member_at c.args.stay c.loop-s.yielded c.in-Some.s c.next.new.self whole)

pub loop-s-preserved-then-is_begun : goal.loop-s-preserved-then-is_begun
loop-s-preserved-then-is_begun c =
    let whole : c.args.stay ≡ c.loop-s.yielded ++ c.in-Some.s ∷ c.next.new.self = split_at c.loop-s.yielded c.loop-s.s-iterator c.next.new.self c.args.stay c.in-Some.s c.loop-s.invariant.whole c.in-Some.ensures.steps in
    let opened = c.requires.open c.in-Some.s (member_at c.args.stay c.loop-s.yielded c.in-Some.s c.next.new.self whole) in
    let now = c.replay_open.ensures in
    let before = so_far_begun (problem c.args.problem.now) c.args.bounds.now c.args.cert.now c.loop-s.yielded c.loop-s.is_begun c.loop-s.hull c.if-is_begun.true c.loop-s.invariant.so_far in
    let here : box_at (problem c.args.problem.now) c.args.bounds.now c.args.cert.now c.in-Some.s ≡ Some c.replay_open.new.part = box_here (problem c.args.problem.now) c.args.bounds.now c.args.cert.now c.in-Some.s (Some c.replay_open.new.part) opened.is_scenario now.here in
    let next = hull_next (problem c.args.problem.now) c.args.bounds.now c.args.cert.now c.loop-s.yielded c.in-Some.s c.loop-s.hull c.replay_open.new.part before.0 here in
    let long : length c.loop-s.hull ≡ length c.replay_open.new.part = c.loop-s.invariant.hull ∙ sym now.count in
    let occupied = hull_occupied c.loop-s.hull c.replay_open.new.part long before.1 now.occupied in
    let several = hull_several c.loop-s.hull c.replay_open.new.part long before.1 (c.loop-s.invariant.several c.if-is_begun.true) in
    record {
      whole = go_on c.loop-s.yielded c.loop-s.s-iterator c.next.new.self c.args.stay c.in-Some.s c.loop-s.invariant.whole c.in-Some.ensures.steps;
      so_far = so_far_next (problem c.args.problem.now) c.args.bounds.now c.args.cert.now (c.loop-s.yielded ++ c.in-Some.s ∷ []) c.loop-s.is_begun c.hull.new.self c.if-is_begun.true (next ∙ ap (λ (b : Box). Some b) (sym c.hull.ensures), ap is_empty c.hull.ensures ∙ occupied);
      several = λ begun. ap is_single c.hull.ensures ∙ several;
      hull = ap length c.hull.ensures ∙ length-hull_of (length c.args.problem.now.model.columns) c.loop-s.hull (c.replay_open.new.part ∷ []) (c.loop-s.invariant.hull, (now.count, tt));
      replay = now.count;
    }

pub loop-s-preserved : goal.loop-s-preserved
loop-s-preserved c =
    let whole : c.args.stay ≡ c.loop-s.yielded ++ c.in-Some.s ∷ c.next.new.self = split_at c.loop-s.yielded c.loop-s.s-iterator c.next.new.self c.args.stay c.in-Some.s c.loop-s.invariant.whole c.in-Some.ensures.steps in
    let opened = c.requires.open c.in-Some.s (member_at c.args.stay c.loop-s.yielded c.in-Some.s c.next.new.self whole) in
    let now = c.replay_open-else-is_begun.ensures in
    let none : c.loop-s.yielded ≡ [] = so_far_none (problem c.args.problem.now) c.args.bounds.now c.args.cert.now c.loop-s.yielded c.loop-s.is_begun c.loop-s.hull c.if-is_begun.false c.loop-s.invariant.so_far in
    let here : box_at (problem c.args.problem.now) c.args.bounds.now c.args.cert.now c.in-Some.s ≡ Some c.replay_open-else-is_begun.new.part = box_here (problem c.args.problem.now) c.args.bounds.now c.args.cert.now c.in-Some.s (Some c.replay_open-else-is_begun.new.part) opened.is_scenario now.here in
    record {
      whole = go_on c.loop-s.yielded c.loop-s.s-iterator c.next.new.self c.args.stay c.in-Some.s c.loop-s.invariant.whole c.in-Some.ensures.steps;
      so_far = (hull_first (problem c.args.problem.now) c.args.bounds.now c.args.cert.now c.loop-s.yielded c.in-Some.s c.replay_open-else-is_begun.new.part none here, now.occupied);
      several = λ begun. now.several;
      hull = now.count;
      replay = c.loop-s.invariant.replay;
    }
