use Rattle.dual_search.specs.Ascents.{IsCarried, IsSameSearch}
use Rattle.dual_search.proofs.PassLemmas.{Passed}
use Rattle.dual_search.proofs.ascent.Ascent.pass.Given as goal

abbrev pub invariant-loop-row : goal.invariant-loop-row
invariant-loop-row l = record {
  carried : IsCarried l.problem l.self;
  same : IsSameSearch l.initial.self l.self;
  passed : Passed l.problem l.boxes l.initial.self l.self l.row l.moved;
}
