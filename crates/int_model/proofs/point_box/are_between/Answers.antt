use Rattle.std.proofs.Common.{arith, refl}
use Rattle.std.proofs.lemmas.Int.{ints}
use Rattle.int_model.proofs.BoxLaws.{InBox-places, places-InBox}
use Rattle.int_model.proofs.point_box.are_between.Goals as goal
use Rattle.int_model.proofs.point_box.are_between.Goals.{then-x-j-via-then-x-j, then-x-j-via-else-x-j+then-highs-j}

pub returns : goal.returns
returns c = (λ _. InBox-places c.args.lows.now c.args.highs.now c.args.x.now c.requires.sides c.requires.point (λ k h. c.loop-j.invariant k (omega arith)), λ _. refl)

pub returns-then-x-j : goal.returns-then-x-j
returns-then-x-j c = (
  λ e. absurd (cc),
  λ h. absurd (elim c.then-x-j.branch [
    | then-x-j-via-then-x-j w ↦ omega (arith, ints, places-InBox c.args.lows.now c.args.highs.now c.args.x.now h c.loop-j.j c.loop-j-test.true, w.if-x-j.true)
    | then-x-j-via-else-x-j+then-highs-j w ↦ omega (arith, ints, places-InBox c.args.lows.now c.args.highs.now c.args.x.now h c.loop-j.j c.loop-j-test.true, w.if-highs-j.true)
  ]),
)
