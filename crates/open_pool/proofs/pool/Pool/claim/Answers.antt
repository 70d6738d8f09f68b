use Rattle.std.proofs.Common.{◌≡◌, ◌<◌, length, sym, ◌∙◌, ap, subst}
use Rattle.std.specs.Prelude.{ℕ, false, refl, slice_set}
use Rattle.bb_core.specs.Coverage.{Slot, Open, slot_at, marked_as}
use Rattle.bb_core.specs.Settlements.{place_of}
use Rattle.open_pool.specs.Marks.{claimed}
use Rattle.open_pool.specs.Pooled.{Pooled, IsNext, HasNone}
use Rattle.open_pool.specs.PoolParts.{pooled}
use Rattle.bb_core.specs.Shared.{work_of}
use Rattle.open_pool.proofs.PoolLaws.{index-any, slot-got}
use Rattle.open_pool.proofs.SoundLaws.{sound-marked}
use Rattle.open_pool.proofs.MemberLaws.{fits-problem, closed_all}
use Rattle.scenario_changes.specs.Problems.{problem}
use Rattle.open_pool.proofs.pool.Pool.claim.Goals.{then-has_claimed, else-has_claimed}
use Rattle.open_pool.proofs.pool.Pool.claim.Goals as goal

pub invariant_of-self-in-Some : goal.invariant_of-self-in-Some
invariant_of-self-in-Some c =
    let next : IsNext c.self.inside.slots.items c.in-Some.n = rw c.as_slice.ensures.value at c.in-Some.ensures in
    let at_n = slot-got c.self.inside.slots.items c.in-Some.n next.open_here.slot next.open_here.found in
    let below : c.in-Some.n < length c.self.inside.slots.items = at_n.0 in
    let here : c.index_mut-slot.result.now ≡ slot_at c.self.inside.slots.items c.in-Some.n = c.index_mut-slot.ensures.value ∙ index-any c.self.inside.slots.items c.in-Some.n c.index_mut-slot.result.now _ below in
    let mark : (slot_at c.self.inside.slots.items c.in-Some.n).mark ≡ Open = ap (λ (t : Slot). t.mark) at_n.1 ∙ next.open_here.marked in
    sound-marked c.self.inside c.in-Some.n Open claimed c.set_mark.new.self c.refresh.new.self c.self.invariant below mark (λ e. absurd (cc)) (λ e. absurd (cc)) (c.set_mark.ensures ∙ ap (λ (t : Slot). record t { mark = claimed }) (c.in_ok-work-in-Some.ensures.same ∙ here)) (rw c.as_slice-in-Some.ensures.value at c.refresh.ensures.block) c.refresh.ensures.others c.refresh.ensures.many

pub returns-in_ok-work-in-Some-clause-ok : goal.returns-in_ok-work-in-Some-clause-ok
returns-in_ok-work-in-Some-clause-ok c =
    let next : IsNext c.self.inside.slots.items c.in-Some.n = rw c.as_slice.ensures.value at c.in-Some.ensures in
    let at_n = slot-got c.self.inside.slots.items c.in-Some.n next.open_here.slot next.open_here.found in
    let here : c.index_mut-slot.result.now ≡ slot_at c.self.inside.slots.items c.in-Some.n = c.index_mut-slot.ensures.value ∙ index-any c.self.inside.slots.items c.in-Some.n c.index_mut-slot.result.now _ at_n.0 in
    let made : (place_of (work_of c.in_ok-work-in-Some.work) ≡ c.index_mut-slot.result.now.place) × (c.in_ok-work-in-Some.work.node ≡ c.in-Some.n) = c.in_ok-work-in-Some.ensures.work in
    let new : c.set_mark.new.self ≡ record (slot_at c.self.inside.slots.items c.in-Some.n) { mark = claimed } = c.set_mark.ensures ∙ ap (λ (t : Slot). record t { mark = claimed }) (c.in_ok-work-in-Some.ensures.same ∙ here) in
    let stays : c.self.inside.stopped ≡ false = c.if-self.false in
    let pool : Pooled = pooled c.self.inside in
    rw (← c.self.view_is) (
      stays,
      subst (λ (n : ℕ). IsNext c.self.inside.slots.items n) (sym made.1) next,
      made.0 ∙ ap (λ (t : Slot). t.place) here ∙ ap (λ (n : ℕ). (slot_at c.self.inside.slots.items n).place) (sym made.1),
      ap (λ (t : Slot). record pool { slots = slice_set c.self.inside.slots.items c.in-Some.n t }) new ∙ ap (λ (n : ℕ). record pool { slots = marked_as c.self.inside.slots.items n claimed }) (sym made.1),
    )

pub returns-after-has_claimed-clause-ok : goal.returns-after-has_claimed-clause-ok
returns-after-has_claimed-clause-ok c =
    let none : HasNone c.self.inside.slots.items Open = rw c.as_slice.ensures.value at c.in-None.ensures in
    let stays : c.self.inside.stopped ≡ false = c.if-self.false in
    rw (← c.self.view_is) (elim c.if-has_claimed.branch [
      | then-has_claimed w ↦ rw w.result-is (stays, none, rw c.as_slice-slots.ensures.value at w.if-has_claimed.ensures.claimed, refl)
      | else-has_claimed w ↦ rw w.result-is (stays, none, rw c.as_slice-slots.ensures.value at w.if-has_claimed.ensures.claimed, refl)
    ])

pub returns-in_ok-work-in-Some-clause-fits : goal.returns-in_ok-work-in-Some-clause-fits
returns-in_ok-work-in-Some-clause-fits c =
    let next : IsNext c.self.inside.slots.items c.in-Some.n = rw c.as_slice.ensures.value at c.in-Some.ensures in
    let at_n = slot-got c.self.inside.slots.items c.in-Some.n next.open_here.slot next.open_here.found in
    let here : c.index_mut-slot.result.now ≡ slot_at c.self.inside.slots.items c.in-Some.n = c.index_mut-slot.ensures.value ∙ index-any c.self.inside.slots.items c.in-Some.n c.index_mut-slot.result.now _ at_n.0 in
    let place : place_of (work_of c.in_ok-work-in-Some.work) ≡ next.open_here.slot.place = (c.in_ok-work-in-Some.ensures.work).0 ∙ ap (λ (t : Slot). t.place) (here ∙ at_n.1) in
    rw (← c.self.view_is) (fits-problem (problem c.self.inside.problem.now) c.self.inside.slots.items c.in-Some.n next.open_here.slot c.in_ok-work-in-Some.work c.self.invariant.covered.tree c.self.invariant.wide next.open_here.found place c.in_ok-work-in-Some.ensures.live)

pub returns-after-has_claimed-clause-closed : goal.returns-after-has_claimed-clause-closed
returns-after-has_claimed-clause-closed c =
    let none : HasNone c.self.inside.slots.items Open = rw c.as_slice.ensures.value at c.in-None.ensures in
    rw (← c.self.view_is) (elim c.if-has_claimed.branch [
      | then-has_claimed w ↦ rw w.result-is tt
      | else-has_claimed w ↦ rw w.result-is (closed_all c.self.inside.slots.items none (rw c.as_slice-slots.ensures.value at (w.if-has_claimed.ensures.others refl)))
    ])
