use Rattle.std.proofs.Common.{◌≡◌, ◌⊎◌, ℕ, ◌<◌}
use Rattle.bb_core.specs.Coverage.{Closed, Open, slot_at}
use Rattle.open_pool.specs.Marks.{claimed}
use Rattle.open_pool.proofs.scan.has_claimed.Given as goal

abbrev pub invariant-loop-n : goal.invariant-loop-n
invariant-loop-n l = record {
  none : (m : ℕ) → m < l.n → (slot_at l.slots m).mark ≡ claimed → ⊥;
  others : (m : ℕ) → m < l.n → ((slot_at l.slots m).mark ≡ Open) ⊎ ((slot_at l.slots m).mark ≡ Closed);
}
