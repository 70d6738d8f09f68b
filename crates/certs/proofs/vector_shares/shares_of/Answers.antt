use Rattle.std.proofs.Common.{rules, ◌≡◌, Some}
use Rattle.std.specs.Prelude.{slice_get}
use Rattle.certs.proofs.ProblemLemmas.{rows-at}
use Rattle.certs.proofs.vector_shares.shares_of.Goals as goal

pub of-requires : goal.of-requires
of-requires c =
    let at : slice_get c.args.vectors.now c.args.k ≡ Some c.in-Some.vector.now = search rules in
    rows-at _ c.args.vectors.now c.args.k c.in-Some.vector.now c.requires at
