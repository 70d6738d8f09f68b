use Rattle.std.proofs.Common.{◌≡◌, length}
use Rattle.dual_bounds.specs.SharedParts.{AreSmall}
use Rattle.dual_bounds.proofs.ShareLemmas.{IsAdded}
use Rattle.dual_bounds.proofs.shares.add_narrow.Given as goal

abbrev pub invariant-loop-column : goal.invariant-loop-column
invariant-loop-column l = record {
  added : IsAdded l.terms l.multiplier l.column-index l.initial.shares l.shares;
  small : AreSmall l.shares;
  len : length l.shares ≡ length l.initial.shares;
}
