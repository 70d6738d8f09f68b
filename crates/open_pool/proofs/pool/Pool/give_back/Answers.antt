use Rattle.std.proofs.Common.{arith, ◌≡◌, ◌<◌, length, sym, ◌∙◌, ap}
use Rattle.bb_core.specs.Coverage.{Slot, Open, slot_at}
use Rattle.open_pool.specs.Marks.{claimed}
use Rattle.open_pool.proofs.PoolLaws.{index-any}
use Rattle.open_pool.proofs.SoundLaws.{sound-marked}
use Rattle.open_pool.proofs.pool.Pool.give_back.Goals as goal

pub invariant_of-self : goal.invariant_of-self
invariant_of-self c =
    let below : c.args.node < length c.self.inside.slots.items = omega arith in
    let here : c.index_mut-slot.result.now ≡ slot_at c.self.inside.slots.items c.args.node = c.index_mut-slot.ensures.value ∙ index-any c.self.inside.slots.items c.args.node c.index_mut-slot.result.now _ below in
    let mark : (slot_at c.self.inside.slots.items c.args.node).mark ≡ claimed = ap (λ (t : Slot). t.mark) (sym here) ∙ c.is_claimed.ensures.yes c.if-is_claimed.true in
    sound-marked c.self.inside c.args.node claimed Open c.set_mark.new.self c.refresh.new.self c.self.invariant below mark (λ e. absurd (cc)) (λ e. absurd (cc)) (c.set_mark.ensures ∙ ap (λ (t : Slot). record t { mark = Open }) here) (rw c.as_slice.ensures.value at c.refresh.ensures.block) c.refresh.ensures.others c.refresh.ensures.many
