use Rattle.std.proofs.Common.{◌≡◌, None, inl, inr}
use Rattle.dual_bounds.specs.Vectors.{KeepsLimits}
use Rattle.dual_bounds.specs.Refusals.{refusal}
use Rattle.dual_bounds.proofs.RefusalLaws.{keeps-unrefused}
use Rattle.dual_climb.proofs.entries.vector_of.Goals as goal

pub want_of_memory-requires : goal.want_of_memory-requires
want_of_memory-requires c =
    let kept : KeepsLimits (record { scale = c.args.scale; entries = c.in_ok-entries.entries.items }) = record { scale = c.requires.scale; few = c.in_ok-entries.ensures.few; entries = c.in_ok-entries.ensures.limits } in
    let none : refusal c.args.scale c.in_ok-entries.entries.items ≡ None = keeps-unrefused c.args.scale c.in_ok-entries.entries.items kept in
    elim c.in-Err.ensures.err [
      | inl m ↦ m
      | inr r ↦ cc
    ]
