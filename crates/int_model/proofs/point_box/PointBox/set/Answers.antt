use Rattle.std.proofs.Common.{arith, ◌≡◌, length}
use Rattle.std.specs.Int.{w32}
use Rattle.std.proofs.lemmas.Grind.{common_steps}
use Rattle.std.proofs.lemmas.Int.{to_z-of_z}
use Rattle.int_model.proofs.BoxLaws.{box_of-set}
use Rattle.int_model.proofs.SideLemmas.{length-sides}
use Rattle.int_model.proofs.point_box.PointBox.set.Goals as goal

pub index_mut-requires : goal.index_mut-requires
index_mut-requires c =
    let e : length c.args.self.now ≡ length c.self.inside.lows.items = length-sides _ _ c.args.self.now c.self.invariant c.self.view_is in
    grind (arith, common_steps, e, c.requires.column)

pub index_mut-requires-2 : goal.index_mut-requires-2
index_mut-requires-2 c =
    let e : length c.args.self.now ≡ length c.self.inside.lows.items = length-sides _ _ c.args.self.now c.self.invariant c.self.view_is in
    let same : length c.self.inside.lows.items ≡ length c.self.inside.highs.items = c.self.invariant.same_length in
    grind (arith, common_steps, e, same, c.requires.column)

pub returns : goal.returns
returns c =
    rw (to_z-of_z w32 c.args.low c.ranges.low, to_z-of_z w32 c.args.high c.ranges.high, ← c.self.view_is)
    (box_of-set c.self.inside.lows.items c.self.inside.highs.items c.args.j c.args.low c.args.high c.self.invariant.same_length)
