use Rattle.std.proofs.Common.{◌≡◌}
use Rattle.dual_search.specs.Ascents.{IsCarried}
use Rattle.dual_search.proofs.StartLemmas.{AreTold}
use Rattle.dual_search.proofs.ascent.Ascent.new.Given as goal

abbrev pub invariant-loop-row : goal.invariant-loop-row
invariant-loop-row l = record {
  carried : IsCarried l.problem l.ascent;
  scale : l.ascent.scale ≡ l.start.scale;
  scenarios : l.ascent.scenarios.items ≡ l.fn.live;
  told : AreTold l.row-items l.row-index l.ascent.multipliers.items;
}
