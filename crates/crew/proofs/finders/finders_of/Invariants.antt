use Rattle.std.proofs.Common.{◌≡◌, ◌+◌, All, length}
use Rattle.crew.specs.Crews.{IsOf, HasGiven}
use Rattle.crew.proofs.finders.finders_of.Given as goal

abbrev pub invariant-loop-number : goal.invariant-loop-number
invariant-loop-number l = record {
  table : l.master.table ≡ l.words;
  given : HasGiven l.words.words l.number l.master.view l.finders.items;
  of : All (IsOf l.words l.problem) l.finders.items;
  count : length l.finders.items + 1 ≡ l.number;
}
