use Rattle.std.proofs.Common.{arith, ℕ, List, drop, ap, sym, ◌∙◌}
use Rattle.node_work.specs.Refusals.{part_of}
use Rattle.node_work.proofs.RefusalLaws.{part_here, part_next, part_none, part_end}
use Rattle.node_work.proofs.remaining.Remaining.part.Goals as goal

pub loop-k-init : goal.loop-k-init
loop-k-init c = ap (λ (ks : List ℕ). part_of ks c.args.self.now.boxes.items c.args.s) (sym c.iter-scenarios.ensures.members)

pub returns-then-other-s : goal.returns-then-other-s
returns-then-other-s c = sym (c.loop-k.invariant ∙ part_here c.loop-k.scenarios c.next.new.self c.args.self.now.boxes.items c.loop-k.k c.args.s c.in-Some.other c.index.result.now c.in-Some.ensures.steps (omega (arith, c.loop-k-test.true, c.len-k-end.ensures)) c.if-other-s.true c.index.ensures)

pub loop-k-preserved : goal.loop-k-preserved
loop-k-preserved c = c.loop-k.invariant ∙ part_next c.loop-k.scenarios c.next.new.self c.args.self.now.boxes.items c.loop-k.k c.args.s c.in-Some.other c.in-Some.ensures.steps (omega (arith, c.loop-k-test.true, c.len-k-end.ensures)) c.if-other-s.false

pub returns-in-None : goal.returns-in-None
returns-in-None c = sym (c.loop-k.invariant ∙ part_none c.loop-k.scenarios (drop c.loop-k.k c.args.self.now.boxes.items) c.args.s c.in-None.ensures.steps.0)

pub returns : goal.returns
returns c = sym (c.loop-k.invariant ∙ part_end c.loop-k.scenarios c.args.self.now.boxes.items c.loop-k.k c.args.s (omega (arith, c.loop-k-test.false, c.len-k-end.ensures)))
