use Rattle.std.proofs.Common.{arith, FitsSigned, w64}
use Rattle.std.proofs.lemmas.Int.{ints, to_z-of_z}
use Rattle.dual_climb.proofs.EntryLemmas.{rows-weaken, rows-more, entries-more}
use Rattle.dual_climb.proofs.entries.entries_of.Goals as goal

pub loop-row-preserved-then-multiplier-eq0 : goal.loop-row-preserved-then-multiplier-eq0
loop-row-preserved-then-multiplier-eq0 c = record {
  rows = rows-weaken _ _ _ (omega arith) c.loop-row.invariant.rows;
  limits = c.loop-row.invariant.limits;
  few = c.loop-row.invariant.few;
}

pub returns-then-len-ge-MOST_ENTRIES-clause-rows : goal.returns-then-len-ge-MOST_ENTRIES-clause-rows
returns-then-len-ge-MOST_ENTRIES-clause-rows c = rows-weaken _ _ _ (omega arith) c.loop-row.invariant.rows

pub loop-row-preserved : goal.loop-row-preserved
loop-row-preserved c =
    let fits : FitsSigned w64 c.limited.result = omega (arith, ints, c.limited.ensures.limit) in
    let pushed = simp to_z-of_z at c.in_ok-push.ensures.items in
    record {
      rows = rw pushed (rows-more c.loop-row.row _ _ _ (omega arith) c.loop-row.invariant.rows (omega arith));
      limits = rw pushed (entries-more 0 _ _ (omega arith) c.loop-row.invariant.rows c.limited.ensures.limit c.limited.ensures.other c.loop-row.invariant.limits);
      few = omega (arith, c.in_ok-push.ensures.len, c.loop-row.invariant.few);
    }
