use Rattle.std.proofs.Common.{◌≡◌, ℕ, ◌<◌, ◌≤◌, slice_index_or, None, length}
use Rattle.certs.specs.Trees.{dropped}
use Rattle.certs.specs.declared.level.Level.TheVariants.{Inf}
use Rattle.open_pool.specs.Marks.{lesser_than}
use Rattle.open_pool.proofs.levels.close_ends.Given as goal

abbrev pub invariant-loop-k : goal.invariant-loop-k
invariant-loop-k l = record {
  len : length l.ends ≡ length l.initial.ends;
  done : (m : ℕ) → m < l.k → slice_index_or l.ends m Inf ≡ lesser_than (slice_index_or (dropped l.stay 0 l.raised) m None) (slice_index_or l.initial.ends m Inf);
  rest : (m : ℕ) → l.k ≤ m → slice_index_or l.ends m Inf ≡ slice_index_or l.initial.ends m Inf;
}
