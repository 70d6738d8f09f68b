use Rattle.std.proofs.Common.{sym, ◌∙◌}
use Rattle.open_pool.proofs.BoxLemmas.{same_ends}
use Rattle.open_pool.proofs.boxes.is_same_box.Goals as goal

pub returns-then-are_same-clause-yes : goal.returns-then-are_same-clause-yes
returns-then-are_same-clause-yes c = λ same. same_ends c.args.a.now c.args.b.now (sym c.lows.ensures.value ∙ c.are_same.ensures.yes c.if-are_same.true ∙ c.lows-2.ensures.value) (sym c.highs.ensures.value ∙ c.are_same-then-are_same.ensures.yes same ∙ c.highs-then-are_same.ensures.value)
