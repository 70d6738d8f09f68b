use Rattle.std.proofs.Common.{arith, ◌≤◌}
use Rattle.dual_search.proofs.AscentLemmas.{few-terms}
use Rattle.dual_search.proofs.longest_row.Goals as goal

pub loop-row-preserved : goal.loop-row-preserved
loop-row-preserved c =
    let few = few-terms 0 _ c.row.result.now.terms c.row.ensures.limits.terms (omega arith) in
    let before : c.loop-row.longest ≤ 1000 = c.loop-row.invariant in
    let own : c.len.result ≤ 1000 = omega (arith, few, c.len.ensures, c.rows-row-end.ensures.limits.few_columns) in
    let h : c.max-longest.result ≤ 1000 = omega (arith, c.max-longest.ensures, own, before) in
    h
