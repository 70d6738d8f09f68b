use Rattle.std.proofs.Common.{rules, arith, pos, ◌<◌, length}
use Rattle.scenario_changes.proofs.NumberLemmas.{one-more}
use Rattle.scenario_changes.proofs.RootLemmas.{peel-lesser}
use Rattle.scenario_changes.proofs.root.lesser.Goals as goal

pub loop-k-preserved : goal.loop-k-preserved
loop-k-preserved c =
    let other : c.loop-k.k < length c.args.others.now = omega arith in
    one-more c.loop-k.numbers.items c.push.new.self.items _ _ _ _ _ c.loop-k.invariant (peel-lesser c.args.items.now c.args.others.now c.loop-k.k (pos 0) c.loop-k-test.true other) (search rules) c.in_ok-push.ensures.items
