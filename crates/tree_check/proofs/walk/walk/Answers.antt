use Rattle.std.proofs.Common.{◌≡◌, ◌<◌, ◌≤◌, sym, ◌∙◌, ◌+◌, subst, arith, rules, refl, List, Some, true, false, length, length-set, slice_get, slice_set}
use Rattle.scenario_changes.specs.Problems.{problem}
use Rattle.certs.specs.Trees.{is_valid}
use Rattle.tree_check.specs.Walks.{HandsOn, WalkSoFar, place_of}
use Rattle.tree_check.specs.declared.arrival.Arrival.{Arrival}
use Rattle.tree_check.specs.declared.arrival.Arrival.TheVariants.{One}
use Rattle.tree_check.proofs.WalkLemmas.{walk_begun, walk_wrong, walk_next, walk_done, wide_here, not_alone, get_of, handed_back, invalid_at}
use Rattle.tree_check.proofs.walk.walk.Goals as goal

pub loop-n-init : goal.loop-n-init
loop-n-init c = record {
  so_far = walk_begun (problem c.args.problem.now) c.args.answers.now c.args.nodes.now c.in_ok-table.table.items c.in_ok-table.ensures;
  room = c.in_ok-scratch.ensures;
}

pub returns-in_default : goal.returns-in_default
returns-in_default c =
    let below : c.loop-n.n < length c.args.nodes.now = search rules in
    let wide : c.loop-n.n < length c.loop-n.table.items = omega (arith, below, c.loop-n.invariant.so_far.walked.many) in
    let here = get_of c.args.nodes.now c.loop-n.n _ c.index-nodes-n.result below c.index-nodes-n.is in
    let there : slice_get c.loop-n.table.items c.loop-n.n ≡ Some c.take.result = get_of c.loop-n.table.items c.loop-n.n _ c.take.result wide (c.take.ensures ∙ c.index_mut.ensures.value) in
    record {
      ok = tt;
      err = walk_wrong (problem c.args.problem.now) c.args.answers.now c.args.nodes.now c.loop-n.n c.loop-n.table.items c.loop-n.first c.loop-n.invariant.so_far c.index-nodes-n.result here c.take.result there (λ places st place e. absurd (not_alone c.take.result c.in_default.not-One (problem c.args.problem.now) places place st e));
    }

pub is_valid-requires-clause-wide : goal.is_valid-requires-clause-wide
is_valid-requires-clause-wide c =
    let below : c.loop-n.n < length c.args.nodes.now = search rules in
    let wide : c.loop-n.n < length c.loop-n.table.items = omega (arith, below, c.loop-n.invariant.so_far.walked.many) in
    wide_here (problem c.args.problem.now) c.args.answers.now c.args.nodes.now c.loop-n.n c.loop-n.table.items c.loop-n.first c.loop-n.invariant.so_far c.in-One.spot (get_of c.loop-n.table.items c.loop-n.n _ _ wide (sym c.in-One.is ∙ (c.take.ensures ∙ c.index_mut.ensures.value)))

pub returns-then-not-is_valid-clause-err : goal.returns-then-not-is_valid-clause-err
returns-then-not-is_valid-clause-err c =
    let p = problem c.args.problem.now in
    let below : c.loop-n.n < length c.args.nodes.now = search rules in
    let wide : c.loop-n.n < length c.loop-n.table.items = omega (arith, below, c.loop-n.invariant.so_far.walked.many) in
    let here = get_of c.args.nodes.now c.loop-n.n _ c.index-nodes-n.result below c.index-nodes-n.is in
    let there = get_of c.loop-n.table.items c.loop-n.n _ (One c.in-One.spot) wide (sym c.in-One.is ∙ (c.take.ensures ∙ c.index_mut.ensures.value)) in
    let wrong : is_valid p (length c.args.nodes.now) c.loop-n.n (place_of c.in-One.spot) c.index-nodes-n.result ≡ false = search rules in
    walk_wrong p c.args.answers.now c.args.nodes.now c.loop-n.n c.loop-n.table.items c.loop-n.first c.loop-n.invariant.so_far c.index-nodes-n.result here (One c.in-One.spot) there (λ places st place e. invalid_at p (length c.args.nodes.now) c.loop-n.n c.index-nodes-n.result c.in-One.spot places st place e wrong)

pub hand_on-requires-clause-wide : goal.hand_on-requires-clause-wide
hand_on-requires-clause-wide c =
    let below : c.loop-n.n < length c.args.nodes.now = search rules in
    let wide : c.loop-n.n < length c.loop-n.table.items = omega (arith, below, c.loop-n.invariant.so_far.walked.many) in
    wide_here (problem c.args.problem.now) c.args.answers.now c.args.nodes.now c.loop-n.n c.loop-n.table.items c.loop-n.first c.loop-n.invariant.so_far c.in-One.spot (get_of c.loop-n.table.items c.loop-n.n _ _ wide (sym c.in-One.is ∙ (c.take.ensures ∙ c.index_mut.ensures.value)))

pub loop-n-preserved : goal.loop-n-preserved
loop-n-preserved c =
    let p = problem c.args.problem.now in
    let below : c.loop-n.n < length c.args.nodes.now = search rules in
    let wide : c.loop-n.n < length c.loop-n.table.items = omega (arith, below, c.loop-n.invariant.so_far.walked.many) in
    let here = get_of c.args.nodes.now c.loop-n.n _ c.index-nodes-n.result below c.index-nodes-n.is in
    let there = get_of c.loop-n.table.items c.loop-n.n _ (One c.in-One.spot) wide (sym c.in-One.is ∙ (c.take.ensures ∙ c.index_mut.ensures.value)) in
    let valid : is_valid p (length c.args.nodes.now) c.loop-n.n (place_of c.in-One.spot) c.index-nodes-n.result ≡ true = search rules in
    let hands : HandsOn p c.index-nodes-n.result (place_of c.in-One.spot) (slice_set c.loop-n.table.items c.loop-n.n c.take.new.self) c.hand_on.new.table = subst (λ (t : List Arrival). HandsOn p c.index-nodes-n.result (place_of c.in-One.spot) t c.hand_on.new.table) c.deref_mut.ensures.value c.in_ok-hand_on.ensures in
    let next = walk_next p c.args.answers.now c.args.nodes.now c.loop-n.n c.loop-n.table.items c.loop-n.first c.loop-n.invariant.so_far c.index-nodes-n.result here c.in-One.spot there valid c.take.new.self c.hand_on.new.table c.first_below-short.result c.earlier-first.result (c.loop-n.n + 1) hands c.first_below-short.ensures.some c.first_below-short.ensures.none c.earlier-first.ensures refl in
    let back = handed_back c.loop-n.table.len c.hand_on.new.table (slice_set c.loop-n.table.items c.loop-n.n c.take.new.self) hands.many (length-set c.loop-n.table.items c.loop-n.n c.take.new.self ∙ sym c.loop-n.table.ok.0) in
    record {
      so_far = subst (λ (t : List Arrival). WalkSoFar p c.args.answers.now c.args.nodes.now (c.loop-n.n + 1) t c.earlier-first.result) (sym back) next;
      room = c.is_valid.ensures.room;
    }

pub returns-clause-ok : goal.returns-clause-ok
returns-clause-ok c =
    let over : length c.args.nodes.now ≤ c.loop-n.n = search rules in
    walk_done (problem c.args.problem.now) c.args.answers.now c.args.nodes.now c.loop-n.n c.loop-n.table.items c.loop-n.first c.loop-n.invariant.so_far over c.requires.some
