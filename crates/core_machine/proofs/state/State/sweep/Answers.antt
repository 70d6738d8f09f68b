use Rattle.std.proofs.Common.{List, ap}
use Rattle.bb_core.specs.Coverage.{Slot}
use Rattle.bb_core.specs.Machine.{State, MaySweep}
use Rattle.core_machine.proofs.state.State.sweep.Goals as goal

pub returns : goal.returns
returns c = λ p.
    let may : MaySweep c.self.inside.slots.items c.self.inside.caps c.args.node = rw c.as_slice.ensures.value at (c.may_sweep.ensures.yes c.if-not-may_sweep.false) in
    rw (← c.self.view_is) (may, ap (λ (xs : List Slot). let q : State = record { slots = xs; caps = c.self.inside.caps; words = c.self.inside.words; views = c.self.inside.views.items; offers = c.self.inside.offers.items } in q) c.set_mark.ensures)
