use Rattle.tighten.specs.Engines.{box_in}
use Rattle.dive.proofs.PartLemmas.{part-same, part-trans}
use Rattle.dive.proofs.FollowLemmas.{tried-part}
use Rattle.dive.proofs.diver.Diver.fix.Goals as goal

pub returns-then-low-high-clause-part : goal.returns-then-low-high-clause-part
returns-then-low-high-clause-part c = part-same (box_in c.args.self.now.engine)

pub returns-then-is_at_limit-clause-part : goal.returns-then-is_at_limit-clause-part
returns-then-is_at_limit-clause-part c = tried-part (box_in c.args.self.now.engine) (box_in c.try_interval.new.self.engine) c.in_ok-try_interval.field-0 c.in_ok-try_interval.ensures.tightened

pub returns-then-next-end-clause-part : goal.returns-then-next-end-clause-part
returns-then-next-end-clause-part c = part-trans (box_in c.try_interval-2.new.self.engine) (box_in c.try_interval.new.self.engine) (box_in c.args.self.now.engine) (tried-part (box_in c.try_interval.new.self.engine) (box_in c.try_interval-2.new.self.engine) c.in_ok-try_interval-2.field-0 c.in_ok-try_interval-2.ensures.tightened) (tried-part (box_in c.args.self.now.engine) (box_in c.try_interval.new.self.engine) c.in_ok-try_interval.field-0 c.in_ok-try_interval.ensures.tightened)
