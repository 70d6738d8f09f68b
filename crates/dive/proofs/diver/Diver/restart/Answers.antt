use Rattle.dive.proofs.FollowLemmas.{begun-part}
use Rattle.dive.proofs.diver.Diver.restart.Goals as goal

pub returns-clause-part : goal.returns-clause-part
returns-clause-part c = begun-part c.mark-mark.result c.load.new.self c.tighten.new.self.engine c.args.bounds.now c.tighten.result c.load.ensures.bounds c.mark-mark.ensures c.tighten.ensures.tightened
