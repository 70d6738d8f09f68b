use Rattle.std.proofs.Common.{ℕ, sym, subst, length}
use Rattle.tighten.specs.Engines.{box_in}
use Rattle.dive.specs.Plans.{IsPlan}
use Rattle.dive.proofs.PartLemmas.{part-trans}
use Rattle.dive.proofs.diving.descend.Goals as goal

pub revise-requires-clause-plan : goal.revise-requires-clause-plan
revise-requires-clause-plan c = subst (λ (n : ℕ). IsPlan n c.loop.plan) (sym c.loop.invariant.plan.targets) c.loop.invariant.plan

pub loop-preserved : goal.loop-preserved
loop-preserved c = record {
  loaded = c.in_ok-restart-2.ensures.loaded;
  part = c.in_ok-restart-2.ensures.part;
  plan = subst (λ (n : ℕ). IsPlan n c.revise.new.self) c.loop.invariant.plan.targets c.in_ok-revise.ensures;
}

pub returns-in_default-clause-part : goal.returns-in_default-clause-part
returns-in_default-clause-part c = part-trans (box_in c.fix_all.new.diver.engine) (box_in c.loop.diver.engine) c.args.bounds.now c.in_ok-place.ensures.part c.loop.invariant.part

pub returns-then-is_at_limit-clause-part : goal.returns-then-is_at_limit-clause-part
returns-then-is_at_limit-clause-part c = part-trans (box_in c.fix_all.new.diver.engine) (box_in c.loop.diver.engine) c.args.bounds.now c.in_ok-place.ensures.part c.loop.invariant.part
