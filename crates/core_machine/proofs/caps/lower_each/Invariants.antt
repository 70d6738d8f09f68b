use Rattle.std.proofs.Common.{◌≡◌, ℕ, ◌<◌, ◌≤◌, length, slice_index_or}
use Rattle.certs.specs.Levels.{lesser_level}
use Rattle.certs.specs.declared.level.Level.TheVariants.{Inf}
use Rattle.core_machine.proofs.caps.lower_each.Given as goal

abbrev pub invariant-loop-k : goal.invariant-loop-k
invariant-loop-k l = record {
  len : length l.caps.items ≡ length l.initial.caps.items;
  done : (m : ℕ) → m < l.k → slice_index_or l.caps.items m Inf ≡ lesser_level (slice_index_or l.initial.caps.items m Inf) (slice_index_or l.others m Inf);
  rest : (m : ℕ) → l.k ≤ m → slice_index_or l.caps.items m Inf ≡ slice_index_or l.initial.caps.items m Inf;
}
