use Rattle.std.proofs.Common.{◌≡◌, ◌<◌, ℕ, Contains, length}
use Rattle.incumbent_words.specs.Rule.{code_at, HasAll}
use Rattle.alone_run.specs.Turns.{HasLooked}
use Rattle.alone_run.proofs.turning.look_at.Given as goal

abbrev pub invariant-loop-s : goal.invariant-loop-s
invariant-loop-s l = record {
  looked : HasLooked l.initial.finder l.finder;
  known : HasAll l.initial.finder.seat.view → (k : ℕ) → k < l.s → Contains l.live k → k < length l.finder.seat.view.caps → code_at l.finder.seat.view.caps k ≡ code_at l.finder.seat.view.offers k;
}
