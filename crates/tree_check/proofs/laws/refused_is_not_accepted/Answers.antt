use Rattle.tree_check.proofs.RefusalLemmas.{refused_not_accepted}
use Rattle.tree_check.proofs.laws.refused_is_not_accepted.Goals as goal

pub returns : goal.returns
returns c = refused_not_accepted
