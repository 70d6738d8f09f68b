use Rattle.std.proofs.Common.{arith}
use Rattle.plain_search.proofs.SearchLemmas.{narrow_by_sides}
use Rattle.plain_search.proofs.search.wide_column.Goals as goal

pub returns : goal.returns
returns c = narrow_by_sides c.args.bounds.now _ _ c.lows-lows.ensures.value c.highs-highs.ensures.value (λ k h. c.loop-j.invariant k (omega arith)) c.requires.occupied
