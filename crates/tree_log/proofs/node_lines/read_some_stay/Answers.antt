use Rattle.std.proofs.Common.{◌≡◌, rules, arith, ◌∷◌, Some, min, ◌≤◌}
use Rattle.tree_log.specs.LineWords.{below_of}
use Rattle.tree_log.proofs.ReaderLemmas.{stay_more}
use Rattle.tree_log.proofs.node_lines.read_some_stay.Goals as goal

pub loop-word-preserved : goal.loop-word-preserved
loop-word-preserved c =
    let words : c.loop-word.words ≡ c.in-Some.word.now ∷ c.next.new.self = search rules in
    let number : below_of (min c.args.scenarios 64) c.in-Some.word.now ≡ Some c.in_ok-scenario.scenario = search rules in
    let least : c.loop-word.least ≤ c.in_ok-scenario.scenario = omega arith in
    stay_more c.args.scenarios c.loop-word.least c.in_ok-scenario.scenario c.loop-word.stay c.insert.new.self c.in-Some.word.now c.next.new.self c.loop-word.words c.args.words c.loop-word.invariant words number least c.insert.ensures.exact
