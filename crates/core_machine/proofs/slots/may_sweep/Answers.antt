use Rattle.std.proofs.Common.{◌≡◌, sym, subst}
use Rattle.bb_core.specs.Coverage.{Slot, Open, Stands, ReachesCaps, slot_at}
use Rattle.core_machine.proofs.SlotLaws.{at_index, stands_below, sweeps, sweeps_not}
use Rattle.core_machine.proofs.slots.may_sweep.Goals as goal

pub returns-clause-yes : goal.returns-clause-yes
returns-clause-yes c = λ e.
    let stands : Stands c.args.slots.now c.args.node Open = c.is_open_at.ensures.yes c.if-not-is_open_at.false in
    let here : slot_at c.args.slots.now c.args.node ≡ c.index-slots-node.result = at_index c.args.slots.now c.args.node _ c.index-slots-node.result (stands_below c.args.slots.now c.args.node Open stands) c.index-slots-node.is in
    sweeps c.args.slots.now c.args.caps.now c.args.node stands (subst (λ (t : Slot). ReachesCaps c.args.caps.now t.place.levels) (sym here) (c.reaches.ensures.yes e))

pub returns-clause-no : goal.returns-clause-no
returns-clause-no c = λ e.
    let stands : Stands c.args.slots.now c.args.node Open = c.is_open_at.ensures.yes c.if-not-is_open_at.false in
    let here : slot_at c.args.slots.now c.args.node ≡ c.index-slots-node.result = at_index c.args.slots.now c.args.node _ c.index-slots-node.result (stands_below c.args.slots.now c.args.node Open stands) c.index-slots-node.is in
    sweeps_not c.args.slots.now c.args.caps.now c.args.node (λ r. c.reaches.ensures.no e (subst (λ (t : Slot). ReachesCaps c.args.caps.now t.place.levels) here r))
