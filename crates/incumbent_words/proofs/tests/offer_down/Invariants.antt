use Rattle.std.proofs.Common.{◌≡◌}
use Rattle.incumbent_words.proofs.tests.offer_down.Given as goal

abbrev pub invariant-loop-step : goal.invariant-loop-step
invariant-loop-step l = record {
  table : l.seat.table ≡ l.initial.seat.table;
  numbers : l.seat.view.numbers ≡ l.initial.seat.view.numbers;
}
