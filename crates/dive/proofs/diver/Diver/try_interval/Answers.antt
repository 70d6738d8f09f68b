use Rattle.std.proofs.Common.{arith, ◌≤ℤ◌, FitsSigned, w32}
use Rattle.std.proofs.lemmas.Int.{ints, to_z-of_z}
use Rattle.int_model.specs.Boxes.{interval_at}
use Rattle.tighten.specs.Engines.{box_in}
use Rattle.dive.proofs.PartLemmas.{IsIn, small-at, between-small}
use Rattle.dive.proofs.FollowLemmas.{moved-tried}
use Rattle.dive.proofs.diver.Diver.try_interval.Goals as goal

pub set-requires-clause-low : goal.set-requires-clause-low
set-requires-clause-low c =
    let fits : FitsSigned w32 c.args.low = c.ranges.low in
    let below : c.args.low ≤ℤ (interval_at (box_in c.args.self.now.engine) c.args.column).high = omega (arith, ints, c.requires.order, c.requires.high) in
    simp to_z-of_z (between-small (interval_at (box_in c.args.self.now.engine) c.args.column) c.args.low (small-at c.args.problem.now.model c.args.self.now.engine c.args.column c.requires.loaded c.requires.column) c.requires.low below)

pub set-requires-clause-high : goal.set-requires-clause-high
set-requires-clause-high c =
    let fits : FitsSigned w32 c.args.high = c.ranges.high in
    let above : (interval_at (box_in c.args.self.now.engine) c.args.column).low ≤ℤ c.args.high = omega (arith, ints, c.requires.order, c.requires.low) in
    simp to_z-of_z (between-small (interval_at (box_in c.args.self.now.engine) c.args.column) c.args.high (small-at c.args.problem.now.model c.args.self.now.engine c.args.column c.requires.loaded c.requires.column) above c.requires.high)

pub returns-clause-tightened : goal.returns-clause-tightened
returns-clause-tightened c =
    let low_fits : FitsSigned w32 c.args.low = c.ranges.low in
    let high_fits : FitsSigned w32 c.args.high = c.ranges.high in
    let moves = simp to_z-of_z at c.in_ok-set.ensures.set in
    moved-tried c.args.column c.args.low c.args.high c.mark-mark.result c.args.self.now.engine c.set.new.self c.tighten.new.self.engine c.tighten.result (record { low = c.requires.low; high = c.requires.high }) moves c.mark-mark.ensures c.tighten.ensures.tightened
