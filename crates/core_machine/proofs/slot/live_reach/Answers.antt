use Rattle.std.proofs.Common.{◌≡◌, slice_index_or, Some, None, sym, ◌∙◌, arith, subst}
use Rattle.std.specs.Prelude.{IsTrue}
use borrow.Author.Count.{below_more}
use Rattle.certs.specs.Levels.{level_le}
use Rattle.certs.specs.Trees.{of_live}
use Rattle.certs.specs.declared.level.Level.{Level}
use Rattle.certs.specs.declared.level.Level.TheVariants.{Inf}
use Rattle.core_machine.proofs.CapLaws.{reaches_live}
use Rattle.core_machine.proofs.slot.live_reach.Goals as goal

pub returns-then-not-reaches-clause-no : goal.returns-then-not-reaches-clause-no
returns-then-not-reaches-clause-no c = λ _ h. c.reaches.ensures.no c.if-not-reaches.true (λ e g. subst (λ (l : Level). IsTrue (level_le l e)) (sym c.get-cap.ensures) (h c.loop-k.k e (sym c.live_level-level.ensures ∙ g)))

pub loop-k-preserved : goal.loop-k-preserved
loop-k-preserved c = below_more (λ m. (e : Level) → slice_index_or (of_live c.args.live 0 c.args.levels.now) m None ≡ Some e → IsTrue (level_le (slice_index_or c.args.caps.now m Inf) e)) c.loop-k.k c.loop-k.invariant (λ e g. subst (λ (l : Level). IsTrue (level_le l e)) c.get-cap.ensures (c.reaches.ensures.yes c.if-not-reaches.false e (c.live_level-level.ensures ∙ g)))

pub returns-clause-yes : goal.returns-clause-yes
returns-clause-yes c = λ _. reaches_live c.args.caps.now c.args.live c.args.levels.now c.loop-k.k (omega arith) c.loop-k.invariant
