use Rattle.std.proofs.Common.{arith, ◌≡◌, ap, ◌∙◌}
use Rattle.bb_core.specs.Coverage.{Slot, slot_at}
use Rattle.core_machine.proofs.SlotLaws.{at_index, held_first, held_nowhere}
use Rattle.core_machine.proofs.slots.find_held.Goals as goal

pub returns-then-is_held_by : goal.returns-then-is_held_by
returns-then-is_held_by c =
    let here : slot_at c.args.slots.now c.loop-n.n ≡ c.index-slots-n.result = at_index c.args.slots.now c.loop-n.n _ c.index-slots-n.result (omega arith) c.index-slots-n.is in
    held_first c.args.actor c.args.slots.now c.loop-n.n (omega arith) c.loop-n.invariant (ap (λ (t : Slot). t.mark) here ∙ c.is_held_by.ensures.yes c.if-is_held_by.true)

pub returns : goal.returns
returns c = held_nowhere c.args.actor c.args.slots.now c.loop-n.n (omega arith) c.loop-n.invariant
