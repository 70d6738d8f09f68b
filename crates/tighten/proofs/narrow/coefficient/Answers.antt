use Rattle.std.proofs.Common.{arith, ℕ, ℤ, pos, get_or, FitsSigned, w64}
use Rattle.std.proofs.lemmas.Int.{ints, to_z-of_z}
use Rattle.activity.proofs.SumLemmas.{term_at}
use Rattle.tighten.proofs.OtherTerms.{coefficient-at, coefficient-none}
use Rattle.std.proofs.Common.{sym}
use Rattle.tighten.proofs.narrow.coefficient.Goals as goal

pub returns-clause-value : goal.returns-clause-value
returns-clause-value c = sym (coefficient-none c.args.terms.now c.args.column (0, pos 0) (λ k h. c.loop-other.invariant k (omega arith)))

pub returns-then-other-column-clause-value : goal.returns-then-other-column-clause-value
returns-then-other-column-clause-value c =
    let term : ℕ × ℤ = get_or c.args.terms.now c.loop-other.other-index (0, pos 0) in
    let t = term_at 0 c.requires.0 c.args.terms.now c.loop-other.other-index (0, pos 0) c.requires.1 c.loop-other-test.true in
    let fits : FitsSigned w64 term.1 = omega (arith, ints, t.entry) in
    rw (to_z-of_z w64 term.1 fits) (sym (coefficient-at 0 c.requires.0 c.args.terms.now c.loop-other.other-index c.args.column (0, pos 0) c.requires.1 c.loop-other-test.true c.if-other-column.true))

pub returns-then-other-column-clause-limit : goal.returns-then-other-column-clause-limit
returns-then-other-column-clause-limit c =
    let term : ℕ × ℤ = get_or c.args.terms.now c.loop-other.other-index (0, pos 0) in
    let t = term_at 0 c.requires.0 c.args.terms.now c.loop-other.other-index (0, pos 0) c.requires.1 c.loop-other-test.true in
    let fits : FitsSigned w64 term.1 = omega (arith, ints, t.entry) in
    rw (to_z-of_z w64 term.1 fits) t.entry
