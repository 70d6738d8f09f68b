use Rattle.std.proofs.Common.{rules, ◌≡◌, Some}
use Rattle.std.specs.Prelude.{slice_get}
use Rattle.certs.proofs.ProblemLemmas.{rows-at}
use Rattle.certs.proofs.judging.level_on_replay.Goals as goal

pub farkas_level-requires-clause-rows : goal.farkas_level-requires-clause-rows
farkas_level-requires-clause-rows c =
    let at : slice_get c.args.vectors.now c.in-Farkas.k ≡ Some c.in-Some.vector.now = search rules in
    rows-at _ c.args.vectors.now c.in-Farkas.k c.in-Some.vector.now c.requires.rows at

pub bound_level-requires-clause-rows : goal.bound_level-requires-clause-rows
bound_level-requires-clause-rows c =
    let at : slice_get c.args.vectors.now c.in-Bound.k ≡ Some c.in-Some-get.vector.now = search rules in
    rows-at _ c.args.vectors.now c.in-Bound.k c.in-Some-get.vector.now c.requires.rows at
