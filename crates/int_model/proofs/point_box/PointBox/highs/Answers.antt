use Rattle.std.proofs.Common.{◌∙◌, ap, length, sym}
use Rattle.int_model.proofs.SideLemmas.{map-highs, length-sides, sides-within}
use Rattle.int_model.proofs.point_box.PointBox.highs.Goals as goal

pub returns-clause-value : goal.returns-clause-value
returns-clause-value c = rw (← c.self.view_is) (c.deref.ensures.value ∙ sym (map-highs c.self.inside.lows.items c.self.inside.highs.items c.self.invariant.same_length))

pub returns-clause-count : goal.returns-clause-count
returns-clause-count c =
    ap length c.deref.ensures.value ∙ sym c.self.invariant.same_length ∙ sym (length-sides c.self.inside.lows.items c.self.inside.highs.items c.args.self.now c.self.invariant c.self.view_is)

pub returns-clause-limits : goal.returns-clause-limits
returns-clause-limits c = rw (← c.self.view_is) (sides-within c.self.inside.lows.items c.self.inside.highs.items c.self.invariant)
