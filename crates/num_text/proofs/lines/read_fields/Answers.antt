use Rattle.std.proofs.Common.{rules, tests, ap, ◌∙◌, filter}
use Rattle.std.proofs.lemmas.Iterator.Consumers.{YieldsList-end, YieldsList-at}
use Rattle.std.proofs.lemmas.Iterator.Splits.{YieldsList-from_slice_split}
use Rattle.num_text.specs.Lines.{is_blank, is_nonempty}
use Rattle.num_text.proofs.lines.read_fields.Goals as goal

pub returns : goal.returns
returns c =
    c.loop-piece.invariant
    ∙ ap (filter is_nonempty)
    (YieldsList-end
    (YieldsList-at c.into_iter-piece-iterator.ensures.into_iter_gives
    (YieldsList-from_slice_split _ is_blank c.args.line.now c.split-piece-items.ensures.rest c.split-piece-items.ensures.done c.split-piece-items.ensures.closure (λ x b q k. search (rules, tests))))
    c.loop-piece.yielded _ c.loop-piece.yielded_by _ _ c.in-None.is c.next.ensures.steps).0
