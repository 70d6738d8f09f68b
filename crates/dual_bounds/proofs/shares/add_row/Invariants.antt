use Rattle.dual_bounds.proofs.ShareLemmas.{IsAdded}
use Rattle.dual_bounds.proofs.shares.add_row.Given as goal

abbrev pub invariant-loop-column : goal.invariant-loop-column
invariant-loop-column l = IsAdded l.terms l.multiplier l.column-index l.initial.shares l.shares
