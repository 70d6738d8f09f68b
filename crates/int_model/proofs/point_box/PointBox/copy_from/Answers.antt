use Rattle.std.proofs.Common.{◌∙◌, ap, sym, length}
use Rattle.int_model.proofs.SideLemmas.{length-sides}
use Rattle.int_model.proofs.point_box.PointBox.copy_from.Goals as goal

pub copy_from_slice-requires : goal.copy_from_slice-requires
copy_from_slice-requires c = ap length c.as_mut_slice.ensures.value ∙ sym (length-sides _ _ c.args.self.now c.self.invariant c.self.view_is) ∙ c.requires ∙ length-sides _ _ c.args.other.now c.other.invariant c.other.view_is ∙ sym (ap length c.deref.ensures.value)
