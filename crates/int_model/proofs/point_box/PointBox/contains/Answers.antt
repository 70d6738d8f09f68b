use Rattle.std.proofs.Common.{◌∙◌, ap, length, sym}
use Rattle.int_model.proofs.SideLemmas.{length-sides}
use Rattle.int_model.proofs.point_box.PointBox.contains.Goals as goal

pub are_between-requires-clause-point : goal.are_between-requires-clause-point
are_between-requires-clause-point c =
    ap length c.deref.ensures.value ∙ sym (length-sides c.self.inside.lows.items c.self.inside.highs.items c.args.self.now c.self.invariant c.self.view_is) ∙ sym c.requires
