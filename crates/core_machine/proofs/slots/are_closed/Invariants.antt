use Rattle.std.proofs.Common.{◌≡◌, ℕ, ◌<◌}
use Rattle.bb_core.specs.Coverage.{Closed, slot_at}
use Rattle.core_machine.proofs.slots.are_closed.Given as goal

abbrev pub invariant-loop-n : goal.invariant-loop-n
invariant-loop-n l = (m : ℕ) → m < l.n → (slot_at l.slots m).mark ≡ Closed
