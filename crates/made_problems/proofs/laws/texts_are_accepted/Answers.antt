use Rattle.made_problems.proofs.Acceptance.{both_accepted}
use Rattle.made_problems.proofs.laws.texts_are_accepted.Goals as goal

pub returns : goal.returns
returns c = both_accepted
