use Rattle.std.proofs.Common.{arith, ◌≡◌, ◌∙◌, ap, ℤ, ◌*ℤ◌, FitsSigned, w32}
use Rattle.std.specs.Int.{int_max, int_min}
use Rattle.std.proofs.lemmas.Int.{ints, clamps, to_z-of_z}
use Rattle.dual_bounds.proofs.SharedLaws.{best-of-negative, best-of-other}
use Rattle.dual_bounds.proofs.shared.best_end.Goals as goal

pub returns-then-reduced-lt0-clause-value : goal.returns-then-reduced-lt0-clause-value
returns-then-reduced-lt0-clause-value c =
    let low_fits : FitsSigned w32 c.args.low = omega (arith, ints, c.requires.low) in
    let high_fits : FitsSigned w32 c.args.high = omega (arith, ints, c.requires.high) in
    let picked : c.max.result ≡ int_max c.args.low c.args.high = simp to_z-of_z at c.max.ensures.value in
    ap (λ (z : ℤ). c.args.reduced *ℤ z) (to_z-of_z w32 c.max.result (omega (arith, ints, clamps, picked, c.requires.low, c.requires.high)) ∙ picked) ∙ best-of-negative c.args.reduced c.args.low c.args.high (omega (arith, ints, c.if-reduced-lt0.true))

pub returns-else-reduced-lt0-clause-value : goal.returns-else-reduced-lt0-clause-value
returns-else-reduced-lt0-clause-value c =
    let low_fits : FitsSigned w32 c.args.low = omega (arith, ints, c.requires.low) in
    let high_fits : FitsSigned w32 c.args.high = omega (arith, ints, c.requires.high) in
    let picked : c.min.result ≡ int_min c.args.low c.args.high = simp to_z-of_z at c.min.ensures.value in
    ap (λ (z : ℤ). c.args.reduced *ℤ z) (to_z-of_z w32 c.min.result (omega (arith, ints, clamps, picked, c.requires.low, c.requires.high)) ∙ picked) ∙ best-of-other c.args.reduced c.args.low c.args.high (omega (arith, ints, c.if-reduced-lt0.false))
