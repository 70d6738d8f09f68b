use Rattle.std.proofs.Common.{rules, ◌≡◌, sym, subst, List, None}
use Rattle.dual_bounds.specs.Vectors.{Entry, KeepsLimits}
use Rattle.dual_bounds.specs.Refusals.{refusal}
use Rattle.dual_bounds.proofs.RefusalLaws.{unrefused-keeps}
use Rattle.dual_bounds.proofs.vector.Vector.new.Goals as goal

pub invariant_of-result : goal.invariant_of-result
invariant_of-result c =
    let same : c.in_ok-to_vec.field-0.items ≡ c.args.entries.now = search rules in
    let allowed : refusal c.args.scale c.args.entries.now ≡ None = search rules in
    subst (λ (es : List Entry). KeepsLimits (record { scale = c.args.scale; entries = es })) (sym same) (unrefused-keeps c.args.scale c.args.entries.now allowed)
