use Rattle.std.proofs.Common.{arith, ◌≡◌, ◌+◌, ◌*◌, ◌<◌, ℕ, List, length, Option, None, slice_index_or, ◌∙◌, sym, subst}
use Rattle.bb_core.specs.Coverage.{Slot}
use Rattle.open_pool.specs.Agenda.{FirstIn, AreFirsts}
use Rattle.open_pool.proofs.PoolLaws.{index-any}
use Rattle.open_pool.proofs.AgendaLaws.{first-below, first-next}
use Rattle.open_pool.proofs.agenda.Agenda.next.Goals as goal

-- the entry of a block
entry : (slots : List Slot) (firsts : List (Option ℕ)) (k : ℕ) (o : Option ℕ) → AreFirsts slots firsts → k < length firsts → o ≡ slice_index_or firsts k o → FirstIn slots (k * 128) (k * 128 + 128) o
entry slots firsts k o h l e = subst (λ (p : Option ℕ). FirstIn slots (k * 128) (k * 128 + 128) p) (index-any firsts k None o l ∙ sym e) (h k)

pub better-best-requires-clause-other : goal.better-best-requires-clause-other
better-best-requires-clause-other c =
    first-below c.args.slots.now (c.loop-k.k * 128) (c.loop-k.k * 128 + 128) c.index.result.now
    (entry c.args.slots.now c.args.self.now.firsts.items c.loop-k.k c.index.result.now c.requires.firsts (omega arith) c.index.ensures)

pub loop-k-preserved : goal.loop-k-preserved
loop-k-preserved c =
    let whole : FirstIn c.args.slots.now 0 (c.loop-k.k * 128 + 128) c.better-best.result =
    c.better-best.ensures 0 (c.loop-k.k * 128) (c.loop-k.k * 128 + 128) (omega arith) (omega arith) c.loop-k.invariant
    (entry c.args.slots.now c.args.self.now.firsts.items c.loop-k.k c.index.result.now c.requires.firsts (omega arith) c.index.ensures) in
    let next : c.loop-k.k * 128 + 128 ≡ (c.loop-k.k + 1) * 128 = omega arith in
    subst (λ (n : ℕ). FirstIn c.args.slots.now 0 n c.better-best.result) next whole

pub returns : goal.returns
returns c = first-next c.args.slots.now (c.loop-k.k * 128) c.loop-k.best (omega arith) c.loop-k.invariant
