use Rattle.tighten.proofs.ReplayLaws.{replay-keeps}
use Rattle.tighten.proofs.laws.replay_keeps.Goals as goal

pub returns : goal.returns
returns c = replay-keeps
