use Rattle.tighten.proofs.ReplayLaws.{tightened-keeps}
use Rattle.tighten.proofs.laws.step_keeps.Goals as goal

pub returns : goal.returns
returns c = tightened-keeps
