use Rattle.std.proofs.Common.{arith, ◌≡◌, ◌≤◌, ◌*◌, ◌^◌, ap, ℕ, pos, unsigned_abs, take, FitsSigned, w64}
use Rattle.std.specs.Prelude.{slice_index_or}
use Rattle.std.proofs.lemmas.List.{take_all}
use Rattle.std.proofs.lemmas.Int.{ints, to_z-of_z}
use Rattle.std.proofs.Math.Nat.{mul-le-mul}
use Rattle.int_model.specs.Programs.{Terms}
use Rattle.int_model.specs.RowSums.{coefficient}
use Rattle.activity.proofs.SumLemmas.{term_at}
use Rattle.tighten.proofs.SpreadLists.{widen-step}
use Rattle.tighten.proofs.sums.widen.Goals as goal

pub overflow_mul-spread : goal.overflow_mul-spread
overflow_mul-spread c =
    let t = term_at 0 _ c.args.terms.now c.loop-row.row-index (0, pos 0) c.requires.rows c.loop-row-test.true in
    let entry_fits : FitsSigned w64 (slice_index_or c.args.terms.now c.loop-row.row-index (0, pos 0)).1 = omega (arith, ints, t.entry) in
    let size = simp to_z-of_z at c.unsigned_abs.ensures in
    let small : c.unsigned_abs.result ≤ 10 ^ 9 = omega (arith, size.value, t.entry) in
    omega (arith, mul-le-mul small c.requires.width)

pub bounds-spread-row : goal.bounds-spread-row
bounds-spread-row c =
    let t = term_at 0 _ c.args.terms.now c.loop-row.row-index (0, pos 0) c.requires.rows c.loop-row-test.true in
    omega (arith, t.column)

pub bounds-spread-row-in-loop-row : goal.bounds-spread-row-in-loop-row
bounds-spread-row-in-loop-row c =
    let t = term_at 0 _ c.args.terms.now c.loop-row.row-index (0, pos 0) c.requires.rows c.loop-row-test.true in
    omega (arith, t.column)

pub loop-row-preserved : goal.loop-row-preserved
loop-row-preserved c =
    let t = term_at 0 _ c.args.terms.now c.loop-row.row-index (0, pos 0) c.requires.rows c.loop-row-test.true in
    let entry_fits : FitsSigned w64 (slice_index_or c.args.terms.now c.loop-row.row-index (0, pos 0)).1 = omega (arith, ints, t.entry) in
    let size = simp to_z-of_z at c.unsigned_abs.ensures in
    let s = widen-step _ c.args.terms.now c.loop-row.row-index (0, pos 0) c.args.spread.now c.loop-row.spread c.args.width (c.unsigned_abs.result * c.args.width) c.requires.rows c.loop-row-test.true (omega (arith, t.column)) c.loop-row.invariant.grown c.loop-row.invariant.wide (ap (λ (a : ℕ). a * c.args.width) size.value) in
    record { grown = s.grown; wide = s.wide }

pub returns-clause-wide : goal.returns-clause-wide
returns-clause-wide c i =
    let whole : take c.loop-row.row-index c.args.terms.now ≡ c.args.terms.now = take_all _ _ (omega arith) in
    let wide = c.loop-row.invariant.wide i in
    omega (arith, wide, ap (λ (ts : Terms). unsigned_abs (coefficient i ts) * c.args.width) whole)
