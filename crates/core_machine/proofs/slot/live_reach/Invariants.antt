use Rattle.std.proofs.Common.{◌≡◌, ℕ, ◌<◌, slice_index_or, Some, None}
use Rattle.std.specs.Prelude.{IsTrue}
use Rattle.certs.specs.Levels.{level_le}
use Rattle.certs.specs.Trees.{of_live}
use Rattle.certs.specs.declared.level.Level.{Level}
use Rattle.certs.specs.declared.level.Level.TheVariants.{Inf}
use Rattle.core_machine.proofs.slot.live_reach.Given as goal

abbrev pub invariant-loop-k : goal.invariant-loop-k
invariant-loop-k l = (m : ℕ) → m < l.k → (e : Level) → slice_index_or (of_live l.live 0 l.levels) m None ≡ Some e → IsTrue (level_le (slice_index_or l.caps m Inf) e)
