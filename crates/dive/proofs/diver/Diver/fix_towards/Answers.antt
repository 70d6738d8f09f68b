use Rattle.tighten.specs.Engines.{box_in}
use Rattle.dive.proofs.FollowLemmas.{tried-part, tried-more}
use Rattle.dive.proofs.diver.Diver.fix_towards.Goals as goal

pub returns-then-not-branch-clause-part : goal.returns-then-not-branch-clause-part
returns-then-not-branch-clause-part c = tried-part (box_in c.args.self.now.engine) (box_in c.try_interval.new.self.engine) c.in_ok-try_interval.field-0 c.in_ok-try_interval.ensures.tightened

pub returns-clause-part : goal.returns-clause-part
returns-clause-part c = tried-more (box_in c.args.self.now.engine) (box_in c.try_interval.new.self.engine) (box_in c.try_interval-2.new.self.engine) c.try_interval-2.result (tried-part (box_in c.args.self.now.engine) (box_in c.try_interval.new.self.engine) c.in_ok-try_interval.field-0 c.in_ok-try_interval.ensures.tightened) c.try_interval-2.ensures.tightened
