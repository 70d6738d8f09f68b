use Rattle.std.proofs.Common.{arith, ◌≡◌, ◌<◌, ◌++◌, ◌∷◌, [], length, ◌∙◌, ap, rules, List, FitsSigned, w32, to_z, of_z, ℤ}
use Rattle.std.proofs.lemmas.Int.{to_z-of_z}
use Rattle.std.specs.Prelude.{slice_set}
use Rattle.std.specs.Arc.{arc_value}
use Rattle.bb_core.specs.Coverage.{Slot, slot_at}
use Rattle.bb_core.specs.Settlements.{Branch, place_of}
use Rattle.certs.specs.declared.tree.Node.TheVariants.{Split}
use Rattle.bb_core.specs.Shared.{settlement_of, outcome_of}
use Rattle.open_pool.proofs.PoolLaws.{index-any}
use Rattle.open_pool.proofs.SoundLaws.{settled_branch}
use Rattle.core_machine.proofs.slots.enter.Goals as goal

pub returns : goal.returns
returns c =
    let below : c.args.settlement.work.node < length c.args.slots.now.items = c.requires.below in
    let here : c.index_mut-slot.result.now ≡ slot_at c.args.slots.now.items c.args.settlement.work.node = c.index_mut-slot.ensures.value ∙ index-any c.args.slots.now.items c.args.settlement.work.node c.index_mut-slot.result.now _ below in
    let place : c.close-in-Split.new.self.place ≡ place_of (settlement_of c.args.settlement).work = ap (λ (t : Slot). t.place) c.close-in-Split.ensures ∙ ap (λ (t : Slot). t.place) here ∙ c.requires.place in
    let splits : outcome_of c.args.settlement.outcome ≡ Branch c.in-Split.stay c.in-Split.column c.in-Split.value (arc_value c.in-Split.left) (arc_value c.in-Split.right) (arc_value c.in-Split.left_levels) (arc_value c.in-Split.right_levels) = ap outcome_of c.in-Split.is in
    let child : c.len-count.result ≡ length c.args.slots.now.items = omega arith in
    let fits : FitsSigned w32 c.in-Split.value = search rules in
    let whole : to_z w32 (of_z w32 c.in-Split.value) ≡ c.in-Split.value = simp to_z-of_z in
    let added : c.push_reserved-in-Split.new.self.items ≡ (slice_set c.args.slots.now.items c.args.settlement.work.node c.close-in-Split.new.self ++ c.open.result ∷ []) ++ c.open-in-Split.result ∷ [] = c.push_reserved-in-Split.ensures.items ∙ ap (λ (xs : List Slot). xs ++ c.open-in-Split.result ∷ []) c.push_reserved.ensures.items in
    added ∙ settled_branch c.args.slots.now.items (settlement_of c.args.settlement) c.close-in-Split.new.self c.open.result c.open-in-Split.result c.len-count.result c.in-Split.stay c.in-Split.column c.in-Split.value (arc_value c.in-Split.left) (arc_value c.in-Split.right) (arc_value c.in-Split.left_levels) (arc_value c.in-Split.right_levels) splits child (ap (λ (t : Slot). t.node) c.close-in-Split.ensures ∙ ap (λ (z : ℤ). Split c.args.settlement.cert c.args.settlement.verdicts c.in-Split.stay c.len-count.result c.in-Split.column z) whole) place (ap (λ (t : Slot). t.mark) c.close-in-Split.ensures) c.open.ensures c.open-in-Split.ensures
