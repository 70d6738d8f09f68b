use Rattle.std.proofs.Common.{arith, ◌≡◌, ◌∙◌, ◌≤◌, ◌*◌, ◌^◌, ap, sym, ◌-ℤ◌, length, unsigned_abs, refl, FitsSigned, w64, w32}
use Rattle.std.proofs.lemmas.Int.{ints, to_z-of_z}
use Rattle.int_model.specs.Boxes.{Interval, interval_at}
use Rattle.int_model.proofs.BoxLaws.{box_of-set}
use Rattle.tighten.specs.Engines.{box_in}
use Rattle.tighten.proofs.EngineLemmas.{item-at, small-least, small-most, column-of, refilled, shifted-by, grown-by, wide-by, moved-loaded}
use Rattle.tighten.proofs.engine.Engine.move_column.Goals as goal

pub shift-requires-clause-least : goal.shift-requires-clause-least
shift-requires-clause-least c = rw c.deref_mut.ensures.value (small-least c.args.model.now c.args.self.now c.columns-columns.ensures.limits c.requires.loaded)

pub shift-requires-clause-most : goal.shift-requires-clause-most
shift-requires-clause-most c = rw c.deref_mut-2.ensures.value (small-most c.args.model.now c.args.self.now c.columns-columns.ensures.limits c.requires.loaded)

pub shift-requires-clause-low : goal.shift-requires-clause-low
shift-requires-clause-low c =
    let facts = column-of c.args.model.now c.args.self.now c.args.column c.columns-columns.ensures.limits c.requires.loaded c.requires.column in
    let low_at = item-at c.args.self.now.low.items c.args.column c.index.result.now c.index.ensures (omega (arith, c.requires.column, c.requires.loaded.sized.lows)) in
    let high_at = item-at c.args.self.now.high.items c.args.column c.index-2.result.now c.index-2.ensures (omega (arith, c.requires.column, c.requires.loaded.sized.highs)) in
    let low_fits : FitsSigned w32 c.args.low = c.ranges.low in
    let high_fits : FitsSigned w32 c.args.high = c.ranges.high in
    let old_low_fits : FitsSigned w32 c.index.result.now = omega (arith, ints, facts.low_small, low_at) in
    let old_high_fits : FitsSigned w32 c.index-2.result.now = omega (arith, ints, facts.high_small, high_at) in
    let low : c.from.result ≡ c.args.low = simp to_z-of_z at c.from.ensures in
    let old_low : c.from-2.result ≡ c.index.result.now = simp to_z-of_z at c.from-2.ensures in
    let high : c.from-3.result ≡ c.args.high = simp to_z-of_z at c.from-3.ensures in
    let old_high : c.from-4.result ≡ c.index-2.result.now = simp to_z-of_z at c.from-4.ensures in
    let low_wide : FitsSigned w64 c.from.result = omega (arith, ints, low, c.requires.low) in
    let old_low_wide : FitsSigned w64 c.from-2.result = omega (arith, ints, old_low, low_at, facts.low_small) in
    let high_wide : FitsSigned w64 c.from-3.result = omega (arith, ints, high, c.requires.high) in
    let old_high_wide : FitsSigned w64 c.from-4.result = omega (arith, ints, old_high, high_at, facts.high_small) in
    let low_change_fits : FitsSigned w64 (c.from.result -ℤ c.from-2.result) = omega (arith, ints, low, old_low, low_at, facts.low_small, c.requires.low) in
    let high_change_fits : FitsSigned w64 (c.from-3.result -ℤ c.from-4.result) = omega (arith, ints, high, old_high, high_at, facts.high_small, c.requires.high) in
    let small : unsigned_abs (c.from.result -ℤ c.from-2.result) ≤ 2 * 10 ^ 6 = omega (arith, ints, low, old_low, low_at, facts.low_small, c.requires.low) in
    simp to_z-of_z small

pub shift-requires-clause-high : goal.shift-requires-clause-high
shift-requires-clause-high c =
    let facts = column-of c.args.model.now c.args.self.now c.args.column c.columns-columns.ensures.limits c.requires.loaded c.requires.column in
    let low_at = item-at c.args.self.now.low.items c.args.column c.index.result.now c.index.ensures (omega (arith, c.requires.column, c.requires.loaded.sized.lows)) in
    let high_at = item-at c.args.self.now.high.items c.args.column c.index-2.result.now c.index-2.ensures (omega (arith, c.requires.column, c.requires.loaded.sized.highs)) in
    let low_fits : FitsSigned w32 c.args.low = c.ranges.low in
    let high_fits : FitsSigned w32 c.args.high = c.ranges.high in
    let old_low_fits : FitsSigned w32 c.index.result.now = omega (arith, ints, facts.low_small, low_at) in
    let old_high_fits : FitsSigned w32 c.index-2.result.now = omega (arith, ints, facts.high_small, high_at) in
    let low : c.from.result ≡ c.args.low = simp to_z-of_z at c.from.ensures in
    let old_low : c.from-2.result ≡ c.index.result.now = simp to_z-of_z at c.from-2.ensures in
    let high : c.from-3.result ≡ c.args.high = simp to_z-of_z at c.from-3.ensures in
    let old_high : c.from-4.result ≡ c.index-2.result.now = simp to_z-of_z at c.from-4.ensures in
    let low_wide : FitsSigned w64 c.from.result = omega (arith, ints, low, c.requires.low) in
    let old_low_wide : FitsSigned w64 c.from-2.result = omega (arith, ints, old_low, low_at, facts.low_small) in
    let high_wide : FitsSigned w64 c.from-3.result = omega (arith, ints, high, c.requires.high) in
    let old_high_wide : FitsSigned w64 c.from-4.result = omega (arith, ints, old_high, high_at, facts.high_small) in
    let low_change_fits : FitsSigned w64 (c.from.result -ℤ c.from-2.result) = omega (arith, ints, low, old_low, low_at, facts.low_small, c.requires.low) in
    let high_change_fits : FitsSigned w64 (c.from-3.result -ℤ c.from-4.result) = omega (arith, ints, high, old_high, high_at, facts.high_small, c.requires.high) in
    let small : unsigned_abs (c.from-3.result -ℤ c.from-4.result) ≤ 2 * 10 ^ 6 = omega (arith, ints, high, old_high, high_at, facts.high_small, c.requires.high) in
    simp to_z-of_z small

pub returns-clause-loaded : goal.returns-clause-loaded
returns-clause-loaded c =
    let facts = column-of c.args.model.now c.args.self.now c.args.column c.columns-columns.ensures.limits c.requires.loaded c.requires.column in
    let low_at = item-at c.args.self.now.low.items c.args.column c.index.result.now c.index.ensures (omega (arith, c.requires.column, c.requires.loaded.sized.lows)) in
    let high_at = item-at c.args.self.now.high.items c.args.column c.index-2.result.now c.index-2.ensures (omega (arith, c.requires.column, c.requires.loaded.sized.highs)) in
    let low_fits : FitsSigned w32 c.args.low = c.ranges.low in
    let high_fits : FitsSigned w32 c.args.high = c.ranges.high in
    let old_low_fits : FitsSigned w32 c.index.result.now = omega (arith, ints, facts.low_small, low_at) in
    let old_high_fits : FitsSigned w32 c.index-2.result.now = omega (arith, ints, facts.high_small, high_at) in
    let low : c.from.result ≡ c.args.low = simp to_z-of_z at c.from.ensures in
    let old_low : c.from-2.result ≡ c.index.result.now = simp to_z-of_z at c.from-2.ensures in
    let high : c.from-3.result ≡ c.args.high = simp to_z-of_z at c.from-3.ensures in
    let old_high : c.from-4.result ≡ c.index-2.result.now = simp to_z-of_z at c.from-4.ensures in
    let low_wide : FitsSigned w64 c.from.result = omega (arith, ints, low, c.requires.low) in
    let old_low_wide : FitsSigned w64 c.from-2.result = omega (arith, ints, old_low, low_at, facts.low_small) in
    let high_wide : FitsSigned w64 c.from-3.result = omega (arith, ints, high, c.requires.high) in
    let old_high_wide : FitsSigned w64 c.from-4.result = omega (arith, ints, old_high, high_at, facts.high_small) in
    let low_change_fits : FitsSigned w64 (c.from.result -ℤ c.from-2.result) = omega (arith, ints, low, old_low, low_at, facts.low_small, c.requires.low) in
    let high_change_fits : FitsSigned w64 (c.from-3.result -ℤ c.from-4.result) = omega (arith, ints, high, old_high, high_at, facts.high_small, c.requires.high) in
    let low_moved : c.from.result -ℤ c.from-2.result ≡ c.args.low -ℤ (interval_at (box_in c.args.self.now) c.args.column).low = omega (arith, ints, low, old_low, low_at, ap (λ (i : Interval). i.low) facts.at) in
    let high_moved : c.from-3.result -ℤ c.from-4.result ≡ c.args.high -ℤ (interval_at (box_in c.args.self.now) c.args.column).high = omega (arith, ints, high, old_high, high_at, ap (λ (i : Interval). i.high) facts.at) in
    let least = simp to_z-of_z at c.shift.ensures.least in
    let most = simp to_z-of_z at c.shift.ensures.most in
    let least_count : length c.shift.new.least ≡ length c.args.self.now.least.items = c.shift.auto.least ∙ ap length c.deref_mut.ensures.value in
    let most_count : length c.shift.new.most ≡ length c.args.self.now.most.items = c.shift.auto.most ∙ ap length c.deref_mut-2.ensures.value in
    let least_is = refilled c.args.self.now.least c.shift.new.least least_count in
    let most_is = refilled c.args.self.now.most c.shift.new.most most_count in
    let spread_count : length c.widen.new.spread ≡ length c.args.self.now.spread.items = c.widen.auto.spread ∙ ap length c.deref_mut-3.ensures.value in
    let spread_is = refilled c.args.self.now.spread c.widen.new.spread spread_count in
    simp to_z-of_z (moved-loaded c.args.model.now c.args.self.now _ c.args.column c.args.low c.args.high c.columns-columns.ensures.limits c.requires.loaded c.requires.column c.requires.low c.requires.high c.requires.occupied (record {
      lows = refl;
      highs = refl;
      least = shifted-by _ _ _ _ _ _ _ _ c.shift.new.least _ low_moved high_moved c.column_terms-terms.ensures.value c.deref_mut.ensures.value least_is least;
      most = shifted-by _ _ _ _ _ _ _ _ c.shift.new.most _ high_moved low_moved c.column_terms-terms.ensures.value c.deref_mut-2.ensures.value most_is most;
      least_count = ap length least_is ∙ least_count;
      most_count = ap length most_is ∙ most_count;
      width = c.width.result;
      is_width = simp to_z-of_z at c.width.ensures.value;
      grown = λ i. grown-by _ _ _ c.widen.new.spread c.deref_mut-3.ensures.value spread_is c.widen.ensures.grown i;
      wide = λ i. wide-by _ _ _ c.widen.new.spread c.width.result c.column_terms-terms.ensures.value spread_is c.widen.ensures.wide i;
      spread_count = ap length spread_is ∙ spread_count;
      queue = refl;
      trail = refl;
      steps = refl;
    }))

pub returns-clause-bounds : goal.returns-clause-bounds
returns-clause-bounds c =
    let low_fits : FitsSigned w32 c.args.low = c.ranges.low in
    let high_fits : FitsSigned w32 c.args.high = c.ranges.high in
    simp to_z-of_z (box_of-set c.args.self.now.low.items c.args.self.now.high.items c.args.column c.args.low c.args.high (c.requires.loaded.sized.lows ∙ sym c.requires.loaded.sized.highs))
