use Rattle.std.proofs.Common.{arith, refl}
use Rattle.std.proofs.lemmas.Int.{ints}
use Rattle.int_model.proofs.BoxLaws.{InBox-places, places-InBox}
use Rattle.scenario_changes.proofs.feasible.are_between.Goals as goal

pub returns : goal.returns
returns c = (λ _. InBox-places c.args.lows.now c.args.highs.now c.args.x.now c.requires.sides c.requires.point (λ k h. c.loop-j.invariant k (omega arith)), λ _. refl)

pub returns-then-x-j : goal.returns-then-x-j
returns-then-x-j c = (λ e. absurd (cc), λ h. absurd (omega (arith, ints, places-InBox c.args.lows.now c.args.highs.now c.args.x.now h c.loop-j.j c.loop-j-test.true, c.if-x-j.true)))

pub returns-then-highs-j : goal.returns-then-highs-j
returns-then-highs-j c = (λ e. absurd (cc), λ h. absurd (omega (arith, ints, places-InBox c.args.lows.now c.args.highs.now c.args.x.now h c.loop-j.j c.loop-j-test.true, c.if-highs-j.true)))
