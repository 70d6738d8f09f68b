use Rattle.scenario_changes.specs.Problems as problems
use Rattle.std.proofs.Common.{arith, ℕ, subst, ◌≡◌, ◌≤◌, ◌+◌, length, sym, ◌∙◌, ap, true, List, Option, None, slice_index_or}
use Rattle.open_pool.specs.Pooled.{Pooled, IsFull, reopened}
use Rattle.bb_core.specs.Coverage.{MaySettle, Slot, settled}
use Rattle.open_pool.specs.PoolParts.{pooled}
use Rattle.std.specs.Vec.{with_items}
use Rattle.certs.specs.Trees.{dropped}
use Rattle.certs.specs.declared.level.Level.{Level}
use Rattle.certs.specs.declared.level.Level.TheVariants.{Inf}
use Rattle.open_pool.specs.Marks.{claimed, lesser_than}
use Rattle.open_pool.specs.Agenda.{IsRefreshed}
use Rattle.open_pool.specs.Ends.{ended}
use Rattle.open_pool.specs.Claims.{IsSplit}
use Rattle.bb_core.specs.Shared.{settlement_of, outcome_of}
use Rattle.open_pool.proofs.SoundLaws.{full_at, length_reopened, settled_from, short_children, sound-settled, settled_within, with_items_is}
use Rattle.open_pool.proofs.pool.Pool.settle.Goals.{else-is_split-via-then-is_split+else-is_full, else-is_split-via-else-is_split}
use Rattle.open_pool.proofs.pool.Pool.settle.Goals as goal

pub halt-requires : goal.halt-requires
halt-requires c =
    let allowed : MaySettle (problems.problem c.self.inside.problem.now) c.self.inside.slots.items c.self.inside.caps.items claimed (settlement_of c.args.settlement) = rw (c.as_slice-slots.ensures.value, c.as_slice-caps.ensures.value) at (c.is_allowed-allowed.ensures.yes c.if-not-allowed.false) in
    let full : IsFull (problems.problem c.self.inside.problem.now) c.self.inside.nodes (length c.self.inside.slots.items) = full_at (problems.problem c.self.inside.problem.now) c.self.inside.slots.items c.self.inside.caps.items c.self.inside.nodes (settlement_of c.args.settlement) c.self.invariant.right c.self.invariant.covered allowed (c.is_split.ensures.yes c.if-is_split.true) (c.is_full.ensures.yes c.if-is_full.true) in
    let q : Pooled = pooled c.self.inside in
    let long : length (reopened q.slots c.args.settlement.work.node) ≡ length q.slots = length_reopened q.slots c.args.settlement.work.node in
    subst (λ (r : Pooled). IsFull r.problem r.nodes (length r.slots)) (sym c.give_back-then-is_full.ensures.pool) (subst (λ (n : ℕ). IsFull q.problem q.nodes n) (sym long) full)

pub returns-then-is_full : goal.returns-then-is_full
returns-then-is_full c =
    let allowed : MaySettle (problems.problem c.self.inside.problem.now) c.self.inside.slots.items c.self.inside.caps.items claimed (settlement_of c.args.settlement) = rw (c.as_slice-slots.ensures.value, c.as_slice-caps.ensures.value) at (c.is_allowed-allowed.ensures.yes c.if-not-allowed.false) in
    let full : IsFull (problems.problem c.self.inside.problem.now) c.self.inside.nodes (length c.self.inside.slots.items) = full_at (problems.problem c.self.inside.problem.now) c.self.inside.slots.items c.self.inside.caps.items c.self.inside.nodes (settlement_of c.args.settlement) c.self.invariant.right c.self.invariant.covered allowed (c.is_split.ensures.yes c.if-is_split.true) (c.is_full.ensures.yes c.if-is_full.true) in
    rw (← c.self.view_is) (allowed, c.is_split.ensures.yes c.if-is_split.true, full, c.halt.ensures ∙ ap (λ (p : Pooled). record p { stopped = true; halted = true }) c.give_back-then-is_full.ensures.pool)

pub enter-settled-requires-clause-short : goal.enter-settled-requires-clause-short
enter-settled-requires-clause-short c =
    let allowed : MaySettle (problems.problem c.self.inside.problem.now) c.self.inside.slots.items c.self.inside.caps.items claimed (settlement_of c.args.settlement) = rw (c.as_slice-slots.ensures.value, c.as_slice-caps.ensures.value) at (c.is_allowed-allowed.ensures.yes c.if-not-allowed.false) in
    short_children (problems.problem c.self.inside.problem.now) c.self.inside.slots.items c.self.inside.caps.items (settlement_of c.args.settlement) allowed c.self.invariant.right.few_scenarios

pub invariant_of-self-2 : goal.invariant_of-self-2
invariant_of-self-2 c =
    let allowed : MaySettle (problems.problem c.self.inside.problem.now) c.self.inside.slots.items c.self.inside.caps.items claimed (settlement_of c.args.settlement) = rw (c.as_slice-slots.ensures.value, c.as_slice-caps.ensures.value) at (c.is_allowed-allowed.ensures.yes c.if-not-allowed.false) in
    let room : IsSplit (outcome_of c.args.settlement.outcome) → length c.self.inside.slots.items + 2 ≤ c.self.inside.nodes = elim c.else-is_split.branch [
      | else-is_split-via-then-is_split+else-is_full w ↦ (λ _. w.is_full.ensures.no w.if-is_full.false)
      | else-is_split-via-else-is_split w ↦ (λ h. absurd (c.is_split.ensures.no w.if-is_split.false h))
    ] in
    let same : dropped c.stayers-stay.result 0 c.as_slice-raised.result.now ≡ ended (problems.problem c.self.inside.problem.now) (length c.self.inside.slots.items) (settlement_of c.args.settlement) = rw (c.stayers-stay.ensures, c.as_slice-raised.ensures.value) (sym (rw c.as_slice-slots.ensures.value at (c.is_allowed-allowed.ensures.ends c.if-not-allowed.false))) in
    let long : length (settled c.self.inside.slots.items (settlement_of c.args.settlement)) ≤ c.self.inside.nodes = settled_within c.self.inside.slots.items (settlement_of c.args.settlement) c.self.inside.nodes (omega (arith, c.self.invariant.within)) room in
    let many : length c.close_ends.new.ends ≡ length c.self.inside.ends.items = c.close_ends.ensures.len ∙ ap length c.as_mut_slice.ensures.value in
    let ends : (with_items c.self.inside.ends c.close_ends.new.ends).items ≡ c.close_ends.new.ends = with_items_is c.self.inside.ends c.close_ends.new.ends (omega (arith, many)) in
    let count : c.len-count.result ≡ length c.self.inside.slots.items = omega arith in
    let blocks : (k : ℕ) → IsRefreshed c.enter-settled.new.slots.items c.args.settlement.work.node (length c.self.inside.slots.items) (length c.enter-settled.new.slots.items) c.self.inside.agenda.firsts.items c.refresh_all.new.self.firsts.items k = rw (c.as_slice.ensures.value, count) at c.refresh_all.ensures.refreshed in
    sound-settled c.self.inside c.enter-settled.new.slots c.refresh_all.new.self (with_items c.self.inside.ends c.close_ends.new.ends) c.is_allowed-allowed.new.scratch (settlement_of c.args.settlement) c.self.invariant allowed c.enter-settled.ensures.slots (omega (arith, long, ap length c.enter-settled.ensures.slots)) c.enter-settled.ensures.capacity c.is_allowed-allowed.ensures.scratch (ap length ends ∙ many) (λ k b. ap (λ (xs : List Level). slice_index_or xs k Inf) ends ∙ (rw c.as_mut_slice.ensures.value at c.close_ends.ensures.lower) k b ∙ ap (λ (xs : List (Option Level)). lesser_than (slice_index_or xs k None) (slice_index_or c.self.inside.ends.items k Inf)) same) blocks c.refresh_all.ensures.many

pub returns : goal.returns
returns c =
    let allowed : MaySettle (problems.problem c.self.inside.problem.now) c.self.inside.slots.items c.self.inside.caps.items claimed (settlement_of c.args.settlement) = rw (c.as_slice-slots.ensures.value, c.as_slice-caps.ensures.value) at (c.is_allowed-allowed.ensures.yes c.if-not-allowed.false) in
    let room : IsSplit (outcome_of c.args.settlement.outcome) → length c.self.inside.slots.items + 2 ≤ c.self.inside.nodes = elim c.else-is_split.branch [
      | else-is_split-via-then-is_split+else-is_full w ↦ (λ _. w.is_full.ensures.no w.if-is_full.false)
      | else-is_split-via-else-is_split w ↦ (λ h. absurd (c.is_split.ensures.no w.if-is_split.false h))
    ] in
    rw (← c.self.view_is) (settled_from (pooled c.self.inside) _ (settlement_of c.args.settlement) c.enter-settled.result allowed room c.enter-settled.ensures.answer (ap (λ (xs : List Slot). record (pooled c.self.inside) { slots = xs }) c.enter-settled.ensures.slots))
