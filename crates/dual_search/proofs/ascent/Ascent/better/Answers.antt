use Rattle.std.proofs.Common.{arith, length, ◌<◌, w64, FitsSigned, of_z, to_z}
use Rattle.std.proofs.lemmas.Int.{to_z-of_z}
use Rattle.dual_search.proofs.AscentLemmas.{limits-told}
use Rattle.dual_search.proofs.ascent.Ascent.better.Goals as goal

pub gain-requires-clause-limit : goal.gain-requires-clause-limit
gain-requires-clause-limit c =
    let in_rows : c.args.row < length c.args.self.now.multipliers.items = omega (arith, c.requires.row, c.requires.carried.rows) in
    limits-told c.args.self.now c.args.row (to_z w64 (of_z w64 c.args.other)) in_rows (c.admits.ensures.0 c.if-not-admits.false)

pub gain-requires-2-clause-limit : goal.gain-requires-2-clause-limit
gain-requires-2-clause-limit c =
    let in_rows : c.args.row < length c.args.self.now.multipliers.items = omega (arith, c.requires.row, c.requires.carried.rows) in
    let fits : FitsSigned w64 c.args.best = c.ranges.best in
    rw (to_z-of_z w64 c.args.best fits) (limits-told c.args.self.now c.args.row c.args.best in_rows c.requires.limits)
