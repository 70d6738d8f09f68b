use Rattle.std.proofs.Common.{rules, arith, pos, get_or, FitsSigned, w32}
use Rattle.std.proofs.lemmas.Int.{to_z-of_z}
use Rattle.dual_climb.proofs.NearLemmas.{ordered-at, near-places}
use Rattle.dual_climb.proofs.points.within_sides.Goals as goal

pub clamped-requires : goal.clamped-requires
clamped-requires c =
    let low_fits : FitsSigned w32 (get_or c.args.lows.now c.loop-j.j (pos 0)) = search rules in
    let high_fits : FitsSigned w32 (get_or c.args.highs.now c.loop-j.j (pos 0)) = search rules in
    simp to_z-of_z (ordered-at c.args.lows.now c.args.highs.now c.loop-j.j c.requires.sides c.requires.occupied (omega arith))

pub returns : goal.returns
returns c = near-places c.args.lows.now c.args.highs.now c.loop-j.within.items c.requires.sides (omega arith) (λ k h. c.loop-j.invariant.each k (omega arith))
