use Rattle.std.proofs.Common.{List, length, sym, ap, ◌∙◌, subst, arith}
use Rattle.scenario_changes.specs.Problems.{Problem}
use Rattle.certs.specs.declared.level.Level.{Level}
use Rattle.bb_core.specs.Coverage.{Covers}
use Rattle.open_pool.specs.Pooled.{Pooled}
use Rattle.crew.specs.Shares.{AreAtMost}
use Rattle.crew.proofs.SharedLaws.{settled_same, at_most_lowered}
use Rattle.crew.proofs.shared.SharedPool.settle.Goals as goal

pub lower_caps-requires-clause-pool : goal.lower_caps-requires-clause-pool
lower_caps-requires-clause-pool g c = c.self.invariant.problem ∙ sym c.requires.problem

pub lower_caps-requires-clause-words : goal.lower_caps-requires-clause-words
lower_caps-requires-clause-words g c =
    let i = c.self.invariant in
    ap (λ z. z.words) (c.join.ensures.table ∙ i.table_is) ∙ (i.words ∙ ap (λ (p : Problem). length p.scenarios) (sym c.requires.problem))

pub invariant_of-self : goal.invariant_of-self
invariant_of-self g c =
    let i = c.self.invariant in
    let lowered : Pooled = c.lower_caps.new.pool in
    let now : Pooled = c.settle-settled.new.self in
    let same = settled_same lowered now _ _ c.settle-settled.ensures in
    let problem = same.problem ∙ (ap (λ (q : Pooled). q.problem) c.lower_caps.ensures.same ∙ i.problem) in
    record {
      problem = problem;
      limit = same.nodes ∙ (ap (λ (q : Pooled). q.nodes) c.lower_caps.ensures.same ∙ i.limit);
      covered = subst (λ (p : Problem). Covers p now.slots now.caps) problem c.is_covered.ensures.covered;
      many = ap (λ (l : List Level). length l) same.caps ∙ (c.lower_caps.ensures.caps.count ∙ i.many);
      table_is = c.join.ensures.table ∙ i.table_is;
      words = i.words;
      note = c.join.ensures.notes i.note c.requires.note;
      below = subst (AreAtMost c.join.new.seat.view.caps) (sym same.caps) (at_most_lowered _ _ _ _ i.below c.lower_caps.ensures.caps (λ k. omega (arith, c.join.ensures.caps k)));
    }
