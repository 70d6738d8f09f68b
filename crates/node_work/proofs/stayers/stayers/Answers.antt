use Rattle.std.proofs.Common.{◌+◌, sym, subst, ◌∙◌, List, ℕ}
use Rattle.node_work.proofs.MadeLaws.{StaySoFar, stay_in, stay_out}
use Rattle.node_work.proofs.stayers.stayers.Goals as goal
use Rattle.node_work.proofs.stayers.stayers.Goals.{then-is_below, else-is_below}

pub loop-k-preserved : goal.loop-k-preserved
loop-k-preserved c = elim c.if-is_below.branch [
  | then-is_below w ↦ subst (λ (xs : List ℕ). StaySoFar c.args.cuts.now c.args.raised.now (c.loop-k.k + 1) xs) (sym w.stay-is) (stay_in c.args.cuts.now c.args.raised.now c.loop-k.k c.loop-k.stay w.insert.new.self c.loop-k.invariant (sym c.is_below.ensures ∙ w.if-is_below.true) w.insert.ensures.members)
  | else-is_below w ↦ subst (λ (xs : List ℕ). StaySoFar c.args.cuts.now c.args.raised.now (c.loop-k.k + 1) xs) (sym w.stay-is) (stay_out c.args.cuts.now c.args.raised.now c.loop-k.k c.loop-k.stay c.loop-k.invariant (sym c.is_below.ensures ∙ w.if-is_below.false))
]
