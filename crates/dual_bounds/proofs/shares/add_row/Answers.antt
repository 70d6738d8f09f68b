use Rattle.std.proofs.Common.{arith, ◌≡◌, ◌+ℤ◌, ◌*ℤ◌, ap, ℕ, ℤ, pos, FitsSigned, w64, add-one}
use Rattle.std.specs.Prelude.{slice_index_or}
use Rattle.std.proofs.lemmas.Int.{ints, to_z-of_z}
use mir.Syntax.{w128}
use Rattle.dual_bounds.proofs.EntryLemmas.{term-at}
use Rattle.dual_bounds.proofs.ShareLemmas.{IsAdded, add-step, added-all, column-in, now-limit, share-limit}
use Rattle.dual_bounds.proofs.shares.add_row.Goals as goal

pub entry_product-requires-clause-coefficient : goal.entry_product-requires-clause-coefficient
entry_product-requires-clause-coefficient c =
    let t = term-at 0 _ c.args.terms.now c.loop-column.column-index (0, pos 0) c.requires.terms c.loop-column-test.true in
    let fits : FitsSigned w64 (slice_index_or c.args.terms.now c.loop-column.column-index (0, pos 0)).1 = omega (arith, ints, t.entry) in
    simp to_z-of_z t.entry

pub slice_copy_out-shares : goal.slice_copy_out-shares
slice_copy_out-shares c = omega (arith, column-in 0 _ c.args.terms.now c.loop-column.column-index (0, pos 0) c.requires.terms c.loop-column-test.true)

pub bounds-shares-column : goal.bounds-shares-column
bounds-shares-column c = omega (arith, column-in 0 _ c.args.terms.now c.loop-column.column-index (0, pos 0) c.requires.terms c.loop-column-test.true)

pub overflow_add-shares : goal.overflow_add-shares
overflow_add-shares c =
    let term : ℕ × ℤ = slice_index_or c.args.terms.now c.loop-column.column-index (0, pos 0) in
    let t = term-at 0 _ c.args.terms.now c.loop-column.column-index (0, pos 0) c.requires.terms c.loop-column-test.true in
    let entry_fits : FitsSigned w64 term.1 = omega (arith, ints, t.entry) in
    let multiplier_fits : FitsSigned w64 c.args.multiplier = omega (arith, ints, c.requires.multiplier) in
    let added : IsAdded c.args.terms.now c.args.multiplier c.loop-column.column-index c.args.shares.now c.loop-column.shares = simp to_z-of_z at c.loop-column.invariant in
    let product : c.entry_product.result ≡ c.args.multiplier *ℤ term.1 = simp to_z-of_z at c.entry_product.ensures.value in
    let small = now-limit _ c.args.terms.now c.loop-column.column-index (0, pos 0) c.args.multiplier c.args.shares.now c.loop-column.shares c.requires.terms c.loop-column-test.true c.requires.multiplier added (c.requires.limit term.0) in
    let now_fits : FitsSigned w128 (slice_index_or c.loop-column.shares term.0 (pos 0)) = omega (arith, ints, small) in
    let product_fits : FitsSigned w128 c.entry_product.result = omega (arith, ints, c.entry_product.ensures.limit) in
    let fits : FitsSigned w128 (slice_index_or c.loop-column.shares term.0 (pos 0) +ℤ c.entry_product.result) = omega (arith, ints, small, c.entry_product.ensures.limit) in
    simp to_z-of_z fits

pub loop-column-preserved : goal.loop-column-preserved
loop-column-preserved c =
    let term : ℕ × ℤ = slice_index_or c.args.terms.now c.loop-column.column-index (0, pos 0) in
    let t = term-at 0 _ c.args.terms.now c.loop-column.column-index (0, pos 0) c.requires.terms c.loop-column-test.true in
    let entry_fits : FitsSigned w64 term.1 = omega (arith, ints, t.entry) in
    let multiplier_fits : FitsSigned w64 c.args.multiplier = omega (arith, ints, c.requires.multiplier) in
    let added : IsAdded c.args.terms.now c.args.multiplier c.loop-column.column-index c.args.shares.now c.loop-column.shares = simp to_z-of_z at c.loop-column.invariant in
    let product : c.entry_product.result ≡ c.args.multiplier *ℤ term.1 = simp to_z-of_z at c.entry_product.ensures.value in
    let small = now-limit _ c.args.terms.now c.loop-column.column-index (0, pos 0) c.args.multiplier c.args.shares.now c.loop-column.shares c.requires.terms c.loop-column-test.true c.requires.multiplier added (c.requires.limit term.0) in
    let now_fits : FitsSigned w128 (slice_index_or c.loop-column.shares term.0 (pos 0)) = omega (arith, ints, small) in
    let product_fits : FitsSigned w128 c.entry_product.result = omega (arith, ints, c.entry_product.ensures.limit) in
    let fits : FitsSigned w128 (slice_index_or c.loop-column.shares term.0 (pos 0) +ℤ c.entry_product.result) = omega (arith, ints, small, c.entry_product.ensures.limit) in
    let place = column-in 0 _ c.args.terms.now c.loop-column.column-index (0, pos 0) c.requires.terms c.loop-column-test.true in
    let next = add-step _ c.args.terms.now c.loop-column.column-index (0, pos 0) c.args.multiplier c.args.shares.now c.loop-column.shares (slice_index_or c.loop-column.shares term.0 (pos 0) +ℤ c.entry_product.result) c.requires.terms c.loop-column-test.true (omega (arith, place)) added (ap (λ (z : ℤ). slice_index_or c.loop-column.shares term.0 (pos 0) +ℤ z) product) in
    simp (to_z-of_z, add-one) next

pub returns-clause-value : goal.returns-clause-value
returns-clause-value c =
    let multiplier_fits : FitsSigned w64 c.args.multiplier = omega (arith, ints, c.requires.multiplier) in
    let added : IsAdded c.args.terms.now c.args.multiplier c.loop-column.column-index c.args.shares.now c.loop-column.shares = simp to_z-of_z at c.loop-column.invariant in
    added-all c.args.terms.now c.loop-column.column-index c.args.multiplier c.args.shares.now c.loop-column.shares (omega arith) added

pub returns-clause-limit : goal.returns-clause-limit
returns-clause-limit c j =
    let multiplier_fits : FitsSigned w64 c.args.multiplier = omega (arith, ints, c.requires.multiplier) in
    let added : IsAdded c.args.terms.now c.args.multiplier c.loop-column.column-index c.args.shares.now c.loop-column.shares = simp to_z-of_z at c.loop-column.invariant in
    omega (arith, ints, added-all c.args.terms.now c.loop-column.column-index c.args.multiplier c.args.shares.now c.loop-column.shares (omega arith) added j, share-limit _ c.args.terms.now j c.args.multiplier c.requires.terms c.requires.multiplier)
