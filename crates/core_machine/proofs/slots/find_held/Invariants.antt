use Rattle.std.proofs.Common.{◌≡◌, ℕ, ◌<◌}
use Rattle.bb_core.specs.Coverage.{Held, slot_at}
use Rattle.core_machine.proofs.slots.find_held.Given as goal

abbrev pub invariant-loop-n : goal.invariant-loop-n
invariant-loop-n l = (m : ℕ) → m < l.n → (slot_at l.slots m).mark ≡ Held l.actor → ⊥
