use Rattle.std.proofs.Common.{◌≡◌}
use Rattle.int_model.specs.Boxes.{box_of}
use Rattle.dual_climb.proofs.NearLemmas.{sides-same}
use Rattle.dual_climb.proofs.points.near_point.Goals as goal

pub within_sides-requires-clause-occupied : goal.within_sides-requires-clause-occupied
within_sides-requires-clause-occupied c = rw (sides-same c.args.bounds.now c.lows-lows.result.now c.highs.result.now c.lows-lows.ensures.value c.highs.ensures.value) c.requires.occupied

pub returns : goal.returns
returns c =
    let same : box_of c.lows-lows.result.now c.highs.result.now ≡ c.args.bounds.now = sides-same c.args.bounds.now c.lows-lows.result.now c.highs.result.now c.lows-lows.ensures.value c.highs.ensures.value in
    let near = rw same at c.in_ok-within.ensures in
    rw c.from_vec.ensures near
