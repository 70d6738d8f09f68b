use Rattle.std.proofs.Common.{rules, arith, ◌≡◌, ◌+ℤ◌, ◌<ℤ◌, ℤ, pos, refl, Bool, true, false, List, subst, w64, FitsSigned, of_z, to_z}
use Rattle.std.specs.Prelude.{int_lt}
use Rattle.std.proofs.lemmas.Int.{ints, to_z-of_z}
use mir.Syntax.{w128}
use Rattle.int_model.specs.Boxes.{Box}
use Rattle.scenario_changes.specs.Problems.{Scenarios}
use Rattle.dual_search.specs.declared.ascent.Ascent.{Ascent}
use Rattle.dual_search.specs.Ascents.{total_of, vector_at, with_multiplier}
use Rattle.dual_search.proofs.ascent.Ascent.gains.Goals as goal

above : (x y g : ℤ) → x ≡ y +ℤ g → FitsSigned w128 g → int_lt (pos 0) (to_z w128 (of_z w128 g)) ≡ true → y <ℤ x
above x y g e fits t =
    let plain : int_lt (pos 0) g ≡ true = rw (to_z-of_z w128 g fits) at t in
    omega (arith, ints, e, plain)

below : (x y g : ℤ) → x ≡ y +ℤ g → FitsSigned w128 g → y <ℤ x → int_lt (pos 0) (to_z w128 (of_z w128 g)) ≡ true
below x y g e fits h =
    rw (to_z-of_z w128 g fits) (by_test (int_lt (pos 0) g) refl)
  where
    by_test : (b : Bool) → int_lt (pos 0) g ≡ b → int_lt (pos 0) g ≡ true
    by_test true q = q
    by_test false q = absurd (omega (arith, ints, e, h, q))

pub returns : goal.returns
returns c =
    let p : Scenarios = c.args.problem.now in
    let a : Ascent = c.args.self.now in
    let boxes : List Box = c.args.boxes.now in
    let fits : FitsSigned w128 c.gain.result = search rules in
    let to_fits : FitsSigned w64 c.args.to = c.ranges.to in
    let grows : total_of p a boxes (with_multiplier a c.args.row c.args.to) ≡ total_of p a boxes (vector_at a) +ℤ c.gain.result =
    subst (λ (z : ℤ). total_of p a boxes (with_multiplier a c.args.row z) ≡ total_of p a boxes (vector_at a) +ℤ c.gain.result) (to_z-of_z w64 c.args.to to_fits) c.gain.ensures in (
      above (total_of p a boxes (with_multiplier a c.args.row c.args.to)) (total_of p a boxes (vector_at a)) c.gain.result grows fits,
      below (total_of p a boxes (with_multiplier a c.args.row c.args.to)) (total_of p a boxes (vector_at a)) c.gain.result grows fits,
    )
