use Rattle.std.proofs.Common.{arith, ◌≡◌, ◌∙◌, ◌≤◌, ◌^◌, ap, sym, subst, ℤ, pos, [], None, length, unsigned_abs, FitsSigned, w64, w32}
use Rattle.std.specs.Prelude.{slice_index_or}
use Rattle.std.proofs.lemmas.Int.{ints, to_z-of_z}
use Rattle.int_model.specs.Boxes.{interval_at}
use Rattle.int_model.specs.Limits.{IsEntry}
use Rattle.int_model.specs.Programs.{Terms}
use Rattle.int_model.specs.declared.model.Ends.{Ends}
use Rattle.tighten.specs.declared.step.RowEnd.{RowEnd}
use Rattle.tighten.specs.Cuts.{IsCut, interval}
use Rattle.tighten.specs.Engines.{box_in}
use Rattle.tighten.specs.Replay.{left_by}
use Rattle.tighten.specs.Steps.{rows_of}
use Rattle.tighten.proofs.EngineLemmas.{item-at, row-terms, small-least, small-most, column-of, below-is, above-is, cut-at}
use Rattle.tighten.proofs.OtherTerms.{coefficient-entry}
use Rattle.tighten.proofs.engine.Engine.left_by.Goals as goal

pub below-requires-clause-least : goal.below-requires-clause-least
below-requires-clause-least c =
    let at = item-at c.args.self.now.least.items c.args.step.row c.index-in-Upper.result.now c.index-in-Upper.ensures (omega (arith, c.requires.step.row, c.requires.loaded.sized.least)) in
    let small : unsigned_abs c.index-in-Upper.result.now ≤ 10 ^ 18 = rw at (small-least c.args.model.now c.args.self.now c.columns-columns.ensures.limits c.requires.loaded c.args.step.row) in
    let fits : FitsSigned w64 c.index-in-Upper.result.now = omega (arith, ints, small) in
    simp to_z-of_z small

pub below-requires-clause-coefficient : goal.below-requires-clause-coefficient
below-requires-clause-coefficient c =
    let fits : FitsSigned w64 c.args.coefficient = c.ranges.coefficient in
    let entry : IsEntry c.args.coefficient = rw c.requires.coefficient (coefficient-entry 0 (length c.args.model.now.columns) (slice_index_or (rows_of c.args.model.now) c.args.step.row []) c.args.step.column (row-terms c.args.model.now c.args.step.row c.columns-columns.ensures.limits)) in
    simp to_z-of_z entry

pub below-requires-clause-occupied : goal.below-requires-clause-occupied
below-requires-clause-occupied c =
    let facts = column-of c.args.model.now c.args.self.now c.args.step.column c.columns-columns.ensures.limits c.requires.loaded c.requires.step.column in
    let low = item-at c.args.self.now.low.items c.args.step.column c.index.result.now c.index.ensures (omega (arith, c.requires.step.column, c.requires.loaded.sized.lows)) in
    let high = item-at c.args.self.now.high.items c.args.step.column c.index-2.result.now c.index-2.ensures (omega (arith, c.requires.step.column, c.requires.loaded.sized.highs)) in
    let low_fits : FitsSigned w32 c.index.result.now = omega (arith, ints, facts.low_small, low) in
    let high_fits : FitsSigned w32 c.index-2.result.now = omega (arith, ints, facts.high_small, high) in
    simp to_z-of_z (omega (arith, ints, facts.ordered, low, high))

pub returns-in-Upper : goal.returns-in-Upper
returns-in-Upper c =
    let m = c.args.model.now in
    let limits = c.columns-columns.ensures.limits in
    let facts = column-of c.args.model.now c.args.self.now c.args.step.column c.columns-columns.ensures.limits c.requires.loaded c.requires.step.column in
    let low = item-at c.args.self.now.low.items c.args.step.column c.index.result.now c.index.ensures (omega (arith, c.requires.step.column, c.requires.loaded.sized.lows)) in
    let high = item-at c.args.self.now.high.items c.args.step.column c.index-2.result.now c.index-2.ensures (omega (arith, c.requires.step.column, c.requires.loaded.sized.highs)) in
    let sum = item-at c.args.self.now.least.items c.args.step.row c.index-in-Upper.result.now c.index-in-Upper.ensures (omega (arith, c.requires.step.row, c.requires.loaded.sized.least)) in
    let small : unsigned_abs c.index-in-Upper.result.now ≤ 10 ^ 18 = rw sum (small-least c.args.model.now c.args.self.now c.columns-columns.ensures.limits c.requires.loaded c.args.step.row) in
    let sum_fits : FitsSigned w64 c.index-in-Upper.result.now = omega (arith, ints, small) in
    let coefficient_fits : FitsSigned w64 c.args.coefficient = c.ranges.coefficient in
    let low_fits : FitsSigned w32 c.index.result.now = omega (arith, ints, facts.low_small, low) in
    let high_fits : FitsSigned w32 c.index-2.result.now = omega (arith, ints, facts.high_small, high) in
    let at : interval_at (box_in c.args.self.now) c.args.step.column ≡ interval c.index.result.now c.index-2.result.now = facts.at ∙ ap (λ (z : ℤ). interval z (slice_index_or c.args.self.now.high.items c.args.step.column (pos 0))) (sym low) ∙ ap (interval c.index.result.now) (sym high) in
    let cut = simp to_z-of_z at c.below.ensures in
    let terms : Terms = slice_index_or (rows_of c.args.model.now) c.args.step.row [] in
    let ends : Ends = slice_index_or c.args.ends.now c.args.step.row (record { lower = None; upper = None }) in
    let same = below-is (length c.args.model.now.columns) (slice_index_or (rows_of c.args.model.now) c.args.step.row []) ends.upper c.args.step.column (box_in c.args.self.now) (interval c.index.result.now c.index-2.result.now) c.args.coefficient c.index-in-Upper.result.now (row-terms c.args.model.now c.args.step.row c.columns-columns.ensures.limits) at c.requires.coefficient (sum ∙ c.requires.loaded.least c.args.step.row) in
    subst (λ (s : RowEnd). IsCut (left_by terms ends s c.args.step.column (box_in c.args.self.now)) (interval_at (box_in c.args.self.now) c.args.step.column) c.below.result) (sym c.in-Upper.is)
    (cut-at _ _ _ _ _ same (sym at) cut)

pub above-requires-clause-most : goal.above-requires-clause-most
above-requires-clause-most c =
    let at = item-at c.args.self.now.most.items c.args.step.row c.index-in-Lower.result.now c.index-in-Lower.ensures (omega (arith, c.requires.step.row, c.requires.loaded.sized.most)) in
    let small : unsigned_abs c.index-in-Lower.result.now ≤ 10 ^ 18 = rw at (small-most c.args.model.now c.args.self.now c.columns-columns.ensures.limits c.requires.loaded c.args.step.row) in
    let fits : FitsSigned w64 c.index-in-Lower.result.now = omega (arith, ints, small) in
    simp to_z-of_z small

pub above-requires-clause-coefficient : goal.above-requires-clause-coefficient
above-requires-clause-coefficient c =
    let fits : FitsSigned w64 c.args.coefficient = c.ranges.coefficient in
    let entry : IsEntry c.args.coefficient = rw c.requires.coefficient (coefficient-entry 0 (length c.args.model.now.columns) (slice_index_or (rows_of c.args.model.now) c.args.step.row []) c.args.step.column (row-terms c.args.model.now c.args.step.row c.columns-columns.ensures.limits)) in
    simp to_z-of_z entry

pub above-requires-clause-occupied : goal.above-requires-clause-occupied
above-requires-clause-occupied c =
    let facts = column-of c.args.model.now c.args.self.now c.args.step.column c.columns-columns.ensures.limits c.requires.loaded c.requires.step.column in
    let low = item-at c.args.self.now.low.items c.args.step.column c.index.result.now c.index.ensures (omega (arith, c.requires.step.column, c.requires.loaded.sized.lows)) in
    let high = item-at c.args.self.now.high.items c.args.step.column c.index-2.result.now c.index-2.ensures (omega (arith, c.requires.step.column, c.requires.loaded.sized.highs)) in
    let low_fits : FitsSigned w32 c.index.result.now = omega (arith, ints, facts.low_small, low) in
    let high_fits : FitsSigned w32 c.index-2.result.now = omega (arith, ints, facts.high_small, high) in
    simp to_z-of_z (omega (arith, ints, facts.ordered, low, high))

pub returns-in-Lower : goal.returns-in-Lower
returns-in-Lower c =
    let m = c.args.model.now in
    let limits = c.columns-columns.ensures.limits in
    let facts = column-of c.args.model.now c.args.self.now c.args.step.column c.columns-columns.ensures.limits c.requires.loaded c.requires.step.column in
    let low = item-at c.args.self.now.low.items c.args.step.column c.index.result.now c.index.ensures (omega (arith, c.requires.step.column, c.requires.loaded.sized.lows)) in
    let high = item-at c.args.self.now.high.items c.args.step.column c.index-2.result.now c.index-2.ensures (omega (arith, c.requires.step.column, c.requires.loaded.sized.highs)) in
    let sum = item-at c.args.self.now.most.items c.args.step.row c.index-in-Lower.result.now c.index-in-Lower.ensures (omega (arith, c.requires.step.row, c.requires.loaded.sized.most)) in
    let small : unsigned_abs c.index-in-Lower.result.now ≤ 10 ^ 18 = rw sum (small-most c.args.model.now c.args.self.now c.columns-columns.ensures.limits c.requires.loaded c.args.step.row) in
    let sum_fits : FitsSigned w64 c.index-in-Lower.result.now = omega (arith, ints, small) in
    let coefficient_fits : FitsSigned w64 c.args.coefficient = c.ranges.coefficient in
    let low_fits : FitsSigned w32 c.index.result.now = omega (arith, ints, facts.low_small, low) in
    let high_fits : FitsSigned w32 c.index-2.result.now = omega (arith, ints, facts.high_small, high) in
    let at : interval_at (box_in c.args.self.now) c.args.step.column ≡ interval c.index.result.now c.index-2.result.now = facts.at ∙ ap (λ (z : ℤ). interval z (slice_index_or c.args.self.now.high.items c.args.step.column (pos 0))) (sym low) ∙ ap (interval c.index.result.now) (sym high) in
    let cut = simp to_z-of_z at c.above.ensures in
    let terms : Terms = slice_index_or (rows_of c.args.model.now) c.args.step.row [] in
    let ends : Ends = slice_index_or c.args.ends.now c.args.step.row (record { lower = None; upper = None }) in
    let same = above-is (length c.args.model.now.columns) (slice_index_or (rows_of c.args.model.now) c.args.step.row []) ends.lower c.args.step.column (box_in c.args.self.now) (interval c.index.result.now c.index-2.result.now) c.args.coefficient c.index-in-Lower.result.now (row-terms c.args.model.now c.args.step.row c.columns-columns.ensures.limits) at c.requires.coefficient (sum ∙ c.requires.loaded.most c.args.step.row) in
    subst (λ (s : RowEnd). IsCut (left_by terms ends s c.args.step.column (box_in c.args.self.now)) (interval_at (box_in c.args.self.now) c.args.step.column) c.above.result) (sym c.in-Lower.is)
    (cut-at _ _ _ _ _ same (sym at) cut)
