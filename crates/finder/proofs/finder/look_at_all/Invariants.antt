use Rattle.std.proofs.Common.{◌≡◌, ℕ, ◌<◌, ◌≤◌, length}
use Rattle.incumbent_words.specs.Rule.{code_at, HasAll, IsSameButCaps}
use Rattle.finder.proofs.finder.look_at_all.Given as goal

abbrev pub invariant-loop-s : goal.invariant-loop-s
invariant-loop-s l = record {
  table : l.seat.table ≡ l.initial.seat.table;
  same : IsSameButCaps l.initial.seat.view l.seat.view;
  wide : length l.seat.view.caps ≡ length l.initial.seat.view.caps;
  lowered : (k : ℕ) → code_at l.seat.view.caps k ≤ code_at l.initial.seat.view.caps k;
  seen : HasAll l.initial.seat.view → (k : ℕ) → k < l.s → code_at l.seat.view.caps k ≡ code_at l.initial.seat.view.offers k;
}
