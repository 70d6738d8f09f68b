use Rattle.std.proofs.Common.{rules, arith, ◌≡◌, ◌∙◌, ap, sym, subst, refl, true, false, List, ℕ, ℤ, pos, ◌+ℤ◌, ◌≤ℤ◌, ◌<ℤ◌, ◌<◌, ◌≤◌, ◌^◌, length, unsigned_abs, FitsSigned, w64, of_z, to_z}
use Rattle.std.proofs.lemmas.List.{get_or_read}
use Rattle.std.proofs.lemmas.Int.{ints, to_z-of_z}
use Rattle.std.specs.Prelude.{Bool, IsTrue, int_lt}
use Rattle.std.proofs.lemmas.Bool.{both_ways}
use Rattle.int_model.specs.Integers.{int_at}
use Rattle.int_model.specs.Boxes.{Box}
use Rattle.scenario_changes.specs.Problems.{Scenarios}
use Rattle.dual_bounds.specs.Vectors.{Multipliers}
use Rattle.dual_search.specs.declared.ascent.Ascent.{Ascent}
use Rattle.dual_search.specs.Ascents.{total_of, unit, vector_at, with_multiplier}
use Rattle.dual_search.proofs.AscentLemmas.{limits-told, vector-moved, near-is}
use Rattle.dual_search.proofs.ascent.Ascent.ascend_side.Goals as goal

pub gains-requires-clause-limit : goal.gains-requires-clause-limit
gains-requires-clause-limit c =
    let in_rows : c.args.row < length c.args.self.now.multipliers.items = omega (arith, c.requires.row, c.requires.carried.rows) in
    limits-told c.args.self.now c.args.row _ in_rows (c.admits.ensures.0 c.if-not-admits.false)

-- where a test that tells whether x is below y says no
not-below : (x y : ℤ) (b : Bool) → (x <ℤ y → IsTrue b) → b ≡ false → y ≤ℤ x
not-below x y b tells denied = by_test (int_lt x y) refl
  where
    by_test : (t : Bool) → int_lt x y ≡ t → y ≤ℤ x
    by_test true e =
        let less : x <ℤ y = omega (arith, ints, e) in
        absurd (both_ways b denied (tells less))
    by_test false e = omega (arith, ints, e)

chain : (x y z w : ℤ) → x <ℤ y → y ≤ℤ z → z ≤ℤ w → x <ℤ w
chain x y z w a b c = omega (arith, ints, a, b, c)

pub returns-then-not-gains-clause-ascends : goal.returns-then-not-gains-clause-ascends
returns-then-not-gains-clause-ascends c =
    let p : Scenarios = c.args.problem.now in
    let a : Ascent = c.args.self.now in
    let boxes : List Box = c.args.boxes.now in
    let row : ℕ = c.args.row in
    let in_rows : c.args.row < length c.args.self.now.multipliers.items = omega (arith, c.requires.row, c.requires.carried.rows) in
    let read : c.index.result.now ≡ int_at c.args.self.now.multipliers.items c.args.row = get_or_read c.args.self.now.multipliers.items c.args.row c.index.result.now in_rows c.index.ensures (pos 0) in
    let small : unsigned_abs (int_at c.args.self.now.multipliers.items c.args.row) ≤ 2 ^ 40 = c.requires.carried.vector.limits c.args.row in
    let step : unsigned_abs (unit c.args.upwards) ≤ 1 = subst (λ (z : ℤ). unsigned_abs z ≤ 1) c.unit_step-step.ensures.value c.unit_step-step.ensures.limit in
    let near = near-is (int_at c.args.self.now.multipliers.items c.args.row) c.index.result.now c.unit_step-step.result (unit c.args.upwards) read c.unit_step-step.ensures.value small step in
    let raw : ℤ = to_z w64 (of_z w64 (to_z w64 (of_z w64 c.index.result.now) +ℤ to_z w64 (of_z w64 c.unit_step-step.result))) in
    let test : total_of p a boxes (with_multiplier a row raw) ≤ℤ total_of p a boxes (vector_at a) = not-below (total_of p a boxes (vector_at a)) (total_of p a boxes (with_multiplier a row raw)) c.gains.result c.gains.ensures.1 c.if-not-gains.true in
    (refl, λ limits. subst (λ (z : ℤ). total_of p a boxes (with_multiplier a row z) ≤ℤ total_of p a boxes (vector_at a)) near test)

pub returns-clause-ascends : goal.returns-clause-ascends
returns-clause-ascends c =
    let p : Scenarios = c.args.problem.now in
    let a : Ascent = c.args.self.now in
    let boxes : List Box = c.args.boxes.now in
    let row : ℕ = c.args.row in
    let raw : ℤ = to_z w64 (of_z w64 (to_z w64 (of_z w64 c.index.result.now) +ℤ to_z w64 (of_z w64 c.unit_step-step.result))) in
    let first_fits : FitsSigned w64 c.better-best.result = search rules in
    let second_fits : FitsSigned w64 c.better-best-2.result = search rules in
    let grown : total_of p a boxes (vector_at a) <ℤ total_of p a boxes (with_multiplier a row raw) = c.gains.ensures.0 c.if-not-gains.false in
    let first : total_of p a boxes (with_multiplier a row raw) ≤ℤ total_of p a boxes (with_multiplier a row c.better-best.result) = c.better-best.ensures.least in
    let second : total_of p a boxes (with_multiplier a row c.better-best.result) ≤ℤ total_of p a boxes (with_multiplier a row c.better-best-2.result) =
    subst (λ (z : ℤ). total_of p a boxes (with_multiplier a row z) ≤ℤ total_of p a boxes (with_multiplier a row c.better-best-2.result)) (to_z-of_z w64 c.better-best.result first_fits) c.better-best-2.ensures.least in
    let set : vector_at c.set.new.self ≡ with_multiplier a row c.better-best-2.result =
    vector-moved a c.set.new.self row (to_z w64 (of_z w64 c.better-best-2.result)) c.set.ensures.same.scale c.set.ensures.multipliers
    ∙ ap (λ (z : ℤ). with_multiplier a row z) (to_z-of_z w64 c.better-best-2.result second_fits) in
    subst (λ (v : Multipliers). total_of p a boxes (vector_at a) <ℤ total_of p a boxes v) (sym set)
    (chain (total_of p a boxes (vector_at a)) (total_of p a boxes (with_multiplier a row raw)) (total_of p a boxes (with_multiplier a row c.better-best.result)) (total_of p a boxes (with_multiplier a row c.better-best-2.result)) grown first second)
