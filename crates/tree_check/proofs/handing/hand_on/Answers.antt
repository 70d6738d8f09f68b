use Rattle.std.proofs.Common.{◌≡◌, ◌<◌, ◌+◌, ◌∷◌, [], ◌++◌, sym, ◌∙◌, subst, arith, rules, ℕ, ℤ, suc, List, Option, Some, None, length, slice_index_or, slice_set, slice_get, length-set, FitsSigned, w32}
use Rattle.std.proofs.lemmas.Int.{to_z-of_z}
use Rattle.int_model.specs.Boxes.{below_cut, above_cut}
use Rattle.scenario_changes.specs.Problems.{problem}
use Rattle.certs.specs.Trees.{Place, kept}
use Rattle.certs.specs.declared.level.Level.{Level}
use Rattle.tree_check.specs.Walks.{HandsOn, IsJudged, StandsFor, place_of}
use Rattle.tree_check.specs.declared.arrival.Arrival.{Arrival}
use Rattle.tree_check.proofs.WalkLemmas.{stayers_raised, two_is, hands_on, children_below, place_is, get_of, child_wide}
use Rattle.tree_check.proofs.handing.hand_on.Goals as goal

pub cut-requires-clause-occupied : goal.cut-requires-clause-occupied
cut-requires-clause-occupied c = (subst (λ n. IsJudged (problem c.args.problem.now) (place_of c.args.spot.now) n c.args.scratch.now) c.in-Split.is c.requires.judged).occupied

pub children_levels-requires-clause-stay : goal.children_levels-requires-clause-stay
children_levels-requires-clause-stay c = λ s e.
    subst (λ (ls : List (Option Level)). slice_index_or ls s None ≡ None → ⊥) (sym c.deref.ensures.value) (stayers_raised (problem c.args.problem.now) c.args.spot.now c.args.node.now c.args.scratch.now _ _ _ _ _ _ c.in-Split.is c.requires.judged c.requires.wide s e)

pub children_levels-requires-2-clause-stay : goal.children_levels-requires-2-clause-stay
children_levels-requires-2-clause-stay c = λ s e.
    subst (λ (ls : List (Option Level)). slice_index_or ls s None ≡ None → ⊥) (sym c.deref-2.ensures.value) (stayers_raised (problem c.args.problem.now) c.args.spot.now c.args.node.now c.args.scratch.now _ _ _ _ _ _ c.in-Split.is c.requires.judged c.requires.wide s e)

pub returns : goal.returns
returns c =
    let p = problem c.args.problem.now in
    let place : Place = place_of c.args.spot.now in
    let hull = c.args.scratch.now.hull in
    let stay = c.in-Split.stay in
    let v : ℤ = c.in-Split.value in
    let fits : FitsSigned w32 v = search rules in
    let levels : List (Option Level) = kept stay 0 c.args.scratch.now.raised.items in
    let low : Place = record { box = below_cut hull c.in-Split.column v; levels = levels } in
    let high : Place = record { box = above_cut hull c.in-Split.column v; levels = levels } in
    let left = place_is c.in_ok-left.left (below_cut hull c.in-Split.column v) stay c.in_ok-children_levels.field-0 levels (rw (to_z-of_z w32 v fits) at c.in_ok-left.ensures.below) (rw c.deref.ensures.value at c.in_ok-children_levels.ensures.kept) in
    let right = place_is _ (above_cut hull c.in-Split.column v) stay c.in_ok-children_levels-2.field-0 levels (c.right.view_is ∙ (rw (to_z-of_z w32 v fits) at c.in_ok-left.ensures.above)) (rw c.deref-2.ensures.value at c.in_ok-children_levels-2.ensures.kept) in
    let next : c.in-Split.child + 1 ≡ suc c.in-Split.child = omega arith in
    let within : suc c.in-Split.child < length c.args.table.now = children_below c.args.node.now _ _ _ _ _ _ _ c.in-Split.is c.requires.children in
    let first : slice_get c.args.table.now c.in-Split.child ≡ Some c.index-table-child.result = get_of c.args.table.now c.in-Split.child _ c.index-table-child.result (omega (arith, within)) c.index-table-child.is in
    let second : slice_get (slice_set c.args.table.now c.in-Split.child c.hand.new.self) (suc c.in-Split.child) ≡ Some c.index-table-child-2.result = get_of (slice_set c.args.table.now c.in-Split.child c.hand.new.self) (suc c.in-Split.child) _ c.index-table-child-2.result (omega (arith, within, length-set c.args.table.now c.in-Split.child c.hand.new.self)) (rw next at c.index-table-child-2.is) in
    let left_wide = child_wide p c.args.spot.now hull c.in_ok-left.left stay c.in_ok-children_levels.field-0 c.in-Split.column _ c.requires.wide c.requires.room.hull (rw (to_z-of_z w32 v fits) at c.in_ok-left.ensures.below) c.in_ok-children_levels.ensures.count in
    let right_wide = child_wide p c.args.spot.now hull _ stay c.in_ok-children_levels-2.field-0 c.in-Split.column _ c.requires.wide c.requires.room.hull (c.right.view_is ∙ (rw (to_z-of_z w32 v fits) at c.in_ok-left.ensures.above)) c.in_ok-children_levels-2.ensures.count in
    let handed = hands_on p place c.args.node.now _ _ _ _ _ _ c.in-Split.is low high (two_is p c.args.spot.now c.args.node.now c.args.scratch.now _ _ _ _ _ _ c.in-Split.is c.requires.judged) c.args.table.now c.index-table-child.result c.hand.new.self c.index-table-child-2.result c.hand-2.new.self first second
    (λ places stands. subst (λ (z : Place). StandsFor p c.hand.new.self (places ++ z ∷ [])) left (c.hand.ensures p places left_wide (subst (λ (z : Arrival). StandsFor p z places) c.index-table-child.is stands)))
    (λ places stands. subst (λ (z : Place). StandsFor p c.hand-2.new.self (places ++ z ∷ [])) right (c.hand-2.ensures p places right_wide (subst (λ (z : Arrival). StandsFor p z places) c.index-table-child-2.is stands))) in
    subst (λ (k : ℕ). HandsOn p c.args.node.now place c.args.table.now (slice_set (slice_set c.args.table.now c.in-Split.child c.hand.new.self) k c.hand-2.new.self)) (sym next) handed
