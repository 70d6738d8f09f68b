use Rattle.tighten.specs.Engines.{box_in}
use Rattle.dive.proofs.PartLemmas.{part-same, part-trans}
use Rattle.dive.proofs.diving.fix_all.Goals as goal

pub loop-place-init : goal.loop-place-init
loop-place-init c = record { loaded = c.requires.loaded; part = part-same (box_in c.args.diver.now.engine) }

pub returns-then-not-branch-clause-part : goal.returns-then-not-branch-clause-part
returns-then-not-branch-clause-part c = part-trans (box_in c.fix.new.self.engine) (box_in c.loop-place.diver.engine) (box_in c.args.diver.now.engine) c.in_ok-fix.ensures.part c.loop-place.invariant.part

pub loop-place-preserved : goal.loop-place-preserved
loop-place-preserved c = record {
  loaded = c.in_ok-fix.ensures.loaded;
  part = part-trans (box_in c.fix.new.self.engine) (box_in c.loop-place.diver.engine) (box_in c.args.diver.now.engine) c.in_ok-fix.ensures.part c.loop-place.invariant.part;
}
