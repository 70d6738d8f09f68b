use Rattle.std.proofs.Common.{◌≡◌, drop}
use Rattle.dual_bounds.specs.Refusals.{entries_refusal}
use Rattle.dual_bounds.proofs.vector.entries_fault.Given as goal

abbrev pub invariant-loop-place : goal.invariant-loop-place
invariant-loop-place l = entries_refusal 0 0 l.entries ≡ entries_refusal l.place l.least (drop l.place l.entries)
