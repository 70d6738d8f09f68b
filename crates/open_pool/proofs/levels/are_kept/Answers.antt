use Rattle.std.proofs.Common.{◌≡◌, slice_index_or, None, sym, ap, ◌∙◌, List, Option}
use borrow.Author.Count.{below_more}
use Rattle.certs.specs.Trees.{of_live}
use Rattle.certs.specs.Trees.{kept}
use Rattle.certs.specs.declared.level.Level.{Level}
use Rattle.open_pool.proofs.levels.are_kept.Goals as goal

pub returns-then-not-is_same-clause-no : goal.returns-then-not-is_same-clause-no
returns-then-not-is_same-clause-no c = λ _ e. c.is_same.ensures.no c.if-not-is_same.true (c.live_level-level.ensures ∙ ap (λ (xs : List (Option Level)). slice_index_or xs c.loop-k.k None) e ∙ sym c.kept_level-other.ensures)

pub loop-k-preserved : goal.loop-k-preserved
loop-k-preserved c = below_more (λ m. slice_index_or (of_live c.args.stay 0 c.args.levels.now) m None ≡ slice_index_or (kept c.args.stay 0 c.args.raised.now) m None) c.loop-k.k c.loop-k.invariant (sym c.live_level-level.ensures ∙ c.is_same.ensures.yes c.if-not-is_same.false ∙ c.kept_level-other.ensures)
