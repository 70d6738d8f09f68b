use Rattle.std.proofs.Common.{arith, pos}
use Rattle.dual_search.proofs.TermLemmas.{term-at}
use Rattle.dual_search.proofs.breakpoints.Breakpoints.add.Goals as goal

pub bounds-costs-place : goal.bounds-costs-place
bounds-costs-place c =
    let t = term-at 0 _ c.args.terms.now c.loop-column.column-index (0, pos 0) c.requires.terms c.loop-column-test.true in
    omega (arith, t.column)

pub bounds-lows-place : goal.bounds-lows-place
bounds-lows-place c =
    let t = term-at 0 _ c.args.terms.now c.loop-column.column-index (0, pos 0) c.requires.terms c.loop-column-test.true in
    omega (arith, t.column, c.lows-lows.ensures.count, c.requires.columns)

pub bounds-highs-place : goal.bounds-highs-place
bounds-highs-place c =
    let t = term-at 0 _ c.args.terms.now c.loop-column.column-index (0, pos 0) c.requires.terms c.loop-column-test.true in
    omega (arith, t.column, c.highs-highs.ensures.count, c.requires.columns)
