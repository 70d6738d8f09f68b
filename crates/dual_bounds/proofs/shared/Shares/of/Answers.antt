use Rattle.dual_bounds.proofs.ShareLemmas.{zero-at}
use Rattle.dual_bounds.proofs.shared.Shares.of.Goals as goal

pub take_narrow-requires-clause-zero : goal.take_narrow-requires-clause-zero
take_narrow-requires-clause-zero c = zero-at 1000
