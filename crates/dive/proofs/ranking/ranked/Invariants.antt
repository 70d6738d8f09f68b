use Rattle.std.proofs.Common.{◌<◌, ℕ, length}
use Rattle.std.specs.Prelude.{All}
use Rattle.dive.specs.declared.ranking.Keyed.{Keyed}
use Rattle.dive.proofs.ranking.ranked.Given as goal

abbrev pub invariant-loop-column : goal.invariant-loop-column
invariant-loop-column l = All (λ (k : Keyed). k.column < length l.keys) l.keyed.items

abbrev pub invariant-loop-item : goal.invariant-loop-item
invariant-loop-item l = All (λ (j : ℕ). j < length l.keys) l.order.items
