use Rattle.std.proofs.Common.{arith}
use Rattle.int_model.proofs.BoxLaws.{length-InBox, length-box_of}
use Rattle.scenario_changes.proofs.feasible.lies_within.Goals as goal

pub returns-then-x-lows : goal.returns-then-x-lows
returns-then-x-lows c = (λ e. absurd (cc), λ h. absurd (omega (arith, length-box_of c.args.lows.now c.args.highs.now c.requires, length-InBox _ c.args.x.now h, c.if-x-lows.true)))
