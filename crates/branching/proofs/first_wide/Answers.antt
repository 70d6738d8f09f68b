use Rattle.std.proofs.Common.{arith}
use Rattle.std.proofs.lemmas.Bool.{both_ways}
use Rattle.branching.proofs.BoxLemmas.{none-wide}
use Rattle.branching.proofs.first_wide.Goals as goal

pub unreachable-requires : goal.unreachable-requires
unreachable-requires c =
    let single = none-wide c.args.bounds.now c.requires.occupied (λ k h. c.loop-column.invariant k (omega (arith, h, c.loop-column-test.false, c.lows.ensures.count))) in
    both_ways _ c.requires.several single
