use Rattle.std.proofs.Common.{arith, ◌≡◌, ◌++◌, ◌∷◌, [], List, ap, ◌∙◌, replicate, refl, rules, sym, subst}
use Rattle.certs.specs.declared.level.Level.TheVariants.{Inf}
use Rattle.bb_core.specs.Coverage.{Slot, root_slot}
use Rattle.scenario_changes.specs.Problems.{problem}
use Rattle.open_pool.specs.Agenda.{AreFirsts, IsRight}
use Rattle.open_pool.proofs.AgendaChanges.{firsts-begun}
use Rattle.open_pool.proofs.SoundLaws.{sound-begun}
use Rattle.open_pool.proofs.pool.Pool.begin.Goals as goal

pub invariant_of-result : goal.invariant_of-result
invariant_of-result c =
    let caps : c.in_ok-caps.caps.items ≡ replicate c.count-count.result Inf = search rules in
    let ends : c.in_ok-ends.ends.items ≡ replicate c.count-count.result Inf = search rules in
    let slots : c.push_reserved.new.self.items ≡ root_slot (problem c.args.problem.now) ∷ [] = c.push_reserved.ensures.items ∙ ap (λ (xs : List Slot). xs ++ c.in_ok-root_slot.field-0 ∷ []) c.in_ok-slots.ensures.items ∙ ap (λ (t : Slot). t ∷ []) c.in_ok-root_slot.ensures in
    let first : IsRight (root_slot (problem c.args.problem.now) ∷ []) c.refresh.new.self.firsts.items 0 = subst (λ (xs : List Slot). IsRight xs c.refresh.new.self.firsts.items 0) (c.as_slice.ensures.value ∙ slots) c.refresh.ensures.block in
    sound-begun _ c.count-count.result (record {
      right = c.count-count.ensures.limits;
      count = c.count-count.ensures.count;
      slots = slots;
      caps = caps;
      ends = ends;
      some = c.requires.some;
      few = c.requires.few;
      one = omega (arith, c.push_reserved.ensures.len, c.in_ok-slots.ensures.len);
      room = omega (arith, c.push_reserved.ensures.capacity, c.in_ok-slots.ensures.capacity);
      spare = c.in_ok-spare.ensures.items;
      spare_room = omega (arith, c.in_ok-spare.ensures.capacity);
      firsts = subst (λ (xs : List Slot). AreFirsts xs c.refresh.new.self.firsts.items) (sym slots) (firsts-begun (root_slot (problem c.args.problem.now)) c.in_ok-agenda.agenda.firsts.items c.refresh.new.self.firsts.items c.in_ok-agenda.ensures.none first c.refresh.ensures.others);
      blocks = omega (arith, c.refresh.ensures.many, c.in_ok-agenda.ensures.room);
      scratch = c.in_ok-scratch.ensures;
      halted = refl;
    })
