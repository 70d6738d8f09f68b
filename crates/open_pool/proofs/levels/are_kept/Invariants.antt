use Rattle.std.proofs.Common.{◌≡◌, ℕ, ◌<◌, slice_index_or, None}
use Rattle.certs.specs.Trees.{of_live}
use Rattle.certs.specs.Trees.{kept}
use Rattle.open_pool.proofs.levels.are_kept.Given as goal

abbrev pub invariant-loop-k : goal.invariant-loop-k
invariant-loop-k l = (m : ℕ) → m < l.k → slice_index_or (of_live l.stay 0 l.levels) m None ≡ slice_index_or (kept l.stay 0 l.raised) m None
