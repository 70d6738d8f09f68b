use Rattle.std.proofs.Common.{arith, ◌∙◌, ap, sym, ℤ, pos, ◌-ℤ◌, unsigned_abs, FitsSigned, w64, w32}
use Rattle.std.proofs.lemmas.Int.{ints, to_z-of_z}
use Rattle.std.proofs.Common.{◌*ℤ◌}
use Rattle.int_model.specs.Boxes.{Interval, interval_at}
use Rattle.tighten.specs.Engines.{box_in}
use Rattle.tighten.proofs.EngineLemmas.{item-at, column-of}
use Rattle.tighten.proofs.engine.Engine.spread_of.Goals as goal

pub spread-requires-clause-low : goal.spread-requires-clause-low
spread-requires-clause-low c =
    let facts = column-of c.args.model.now c.args.self.now c.args.column c.columns-columns.ensures.limits c.requires.loaded c.requires.column in
    let at = item-at c.args.self.now.low.items c.args.column c.index.result.now c.index.ensures (omega (arith, c.requires.column, c.requires.loaded.sized.lows)) in
    let fits : FitsSigned w32 c.index.result.now = omega (arith, ints, facts.low_small, at) in
    simp to_z-of_z (omega (arith, ints, facts.low_small, at))

pub spread-requires-clause-high : goal.spread-requires-clause-high
spread-requires-clause-high c =
    let facts = column-of c.args.model.now c.args.self.now c.args.column c.columns-columns.ensures.limits c.requires.loaded c.requires.column in
    let at = item-at c.args.self.now.high.items c.args.column c.index-2.result.now c.index-2.ensures (omega (arith, c.requires.column, c.requires.loaded.sized.highs)) in
    let fits : FitsSigned w32 c.index-2.result.now = omega (arith, ints, facts.high_small, at) in
    simp to_z-of_z (omega (arith, ints, facts.high_small, at))

pub returns : goal.returns
returns c =
    let facts = column-of c.args.model.now c.args.self.now c.args.column c.columns-columns.ensures.limits c.requires.loaded c.requires.column in
    let low_at = item-at c.args.self.now.low.items c.args.column c.index.result.now c.index.ensures (omega (arith, c.requires.column, c.requires.loaded.sized.lows)) in
    let high_at = item-at c.args.self.now.high.items c.args.column c.index-2.result.now c.index-2.ensures (omega (arith, c.requires.column, c.requires.loaded.sized.highs)) in
    let low_fits : FitsSigned w32 c.index.result.now = omega (arith, ints, facts.low_small, low_at) in
    let high_fits : FitsSigned w32 c.index-2.result.now = omega (arith, ints, facts.high_small, high_at) in
    let coefficient_fits : FitsSigned w64 c.args.coefficient = c.ranges.coefficient in
    let spread_fits : FitsSigned w64 c.spread.result = omega (arith, ints, c.spread.ensures.limit) in
    let value = simp to_z-of_z at c.spread.ensures.value in
    let low = low_at ∙ sym (ap (λ (i : Interval). i.low) facts.at) in
    let high = high_at ∙ sym (ap (λ (i : Interval). i.high) facts.at) in
    simp to_z-of_z (value ∙ ap (λ (z : ℤ). pos (unsigned_abs c.args.coefficient) *ℤ (z -ℤ c.index.result.now)) high ∙ ap (λ (z : ℤ). pos (unsigned_abs c.args.coefficient) *ℤ ((interval_at (box_in c.args.self.now) c.args.column).high -ℤ z)) low)
