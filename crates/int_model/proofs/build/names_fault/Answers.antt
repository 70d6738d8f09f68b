use Rattle.std.proofs.Common.{◌∙◌, sym}
use Rattle.int_model.proofs.NameLemmas.{found, seen_before, not_seen, keys_pushed}
use Rattle.int_model.proofs.build.names_fault.Goals as goal

pub returns-then-contains : goal.returns-then-contains
returns-then-contains c =
    sym (c.loop-k.invariant.rest
    ∙ seen_before c.args.names.now c.loop-k.k _ c.loop-k-test.true (found _ c.loop-k.seen.keys _ c.contains.result c.contains.ensures c.loop-k.invariant.keys ∙ c.if-contains.true))

pub loop-k-preserved : goal.loop-k-preserved
loop-k-preserved c = record {
  keys = keys_pushed c.args.names.now c.loop-k.seen.keys _ c.loop-k.k _ _ c.loop-k-test.true c.loop-k.invariant.keys (sym c.contains.ensures ∙ c.if-contains.false) c.in_ok-insert.ensures.keys;
  rest = c.loop-k.invariant.rest ∙ not_seen c.args.names.now c.loop-k.k _ c.loop-k-test.true (found _ c.loop-k.seen.keys _ c.contains.result c.contains.ensures c.loop-k.invariant.keys ∙ c.if-contains.false);
}
