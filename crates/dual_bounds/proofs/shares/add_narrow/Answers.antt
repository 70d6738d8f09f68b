use Rattle.std.proofs.Common.{rules, arith, ◌≡◌, ◌∙◌, ◌+ℤ◌, ◌*ℤ◌, ap, ℕ, ℤ, pos, FitsSigned, w64, add-one, length}
use Rattle.std.specs.Prelude.{slice_index_or}
use Rattle.std.proofs.lemmas.Int.{ints, to_z-of_z}
use Rattle.std.proofs.lemmas.List.{length-set}
use mir.Syntax.{w128}
use Rattle.dual_bounds.proofs.EntryLemmas.{term-at}
use Rattle.dual_bounds.proofs.ShareLemmas.{IsAdded, add-step, added-all, column-in, small-set}
use Rattle.dual_bounds.proofs.shares.add_narrow.Goals as goal

pub entry_product-product-requires-clause-coefficient : goal.entry_product-product-requires-clause-coefficient
entry_product-product-requires-clause-coefficient c =
    let t = term-at 0 _ c.args.terms.now c.loop-column.column-index (0, pos 0) c.requires.terms c.loop-column-test.true in
    let fits : FitsSigned w64 (slice_index_or c.args.terms.now c.loop-column.column-index (0, pos 0)).1 = omega (arith, ints, t.entry) in
    simp to_z-of_z t.entry

pub slice_copy_out-grown : goal.slice_copy_out-grown
slice_copy_out-grown c = omega (arith, column-in 0 _ c.args.terms.now c.loop-column.column-index (0, pos 0) c.requires.terms c.loop-column-test.true, c.loop-column.invariant.len)

pub bounds-shares-place : goal.bounds-shares-place
bounds-shares-place c = omega (arith, column-in 0 _ c.args.terms.now c.loop-column.column-index (0, pos 0) c.requires.terms c.loop-column-test.true, c.loop-column.invariant.len)

pub loop-column-preserved : goal.loop-column-preserved
loop-column-preserved c =
    let term : ℕ × ℤ = slice_index_or c.args.terms.now c.loop-column.column-index (0, pos 0) in
    let t = term-at 0 _ c.args.terms.now c.loop-column.column-index (0, pos 0) c.requires.terms c.loop-column-test.true in
    let entry_fits : FitsSigned w64 term.1 = omega (arith, ints, t.entry) in
    let multiplier_fits : FitsSigned w64 c.args.multiplier = omega (arith, ints, c.requires.multiplier) in
    let added : IsAdded c.args.terms.now c.args.multiplier c.loop-column.column-index c.args.shares.now c.loop-column.shares = simp to_z-of_z at c.loop-column.invariant.added in
    let product : c.entry_product-product.result ≡ c.args.multiplier *ℤ term.1 = simp to_z-of_z at c.entry_product-product.ensures.value in
    let product_fits : FitsSigned w128 c.entry_product-product.result = omega (arith, ints, c.entry_product-product.ensures.limit) in
    let now_fits : FitsSigned w64 (slice_index_or c.loop-column.shares term.0 (pos 0)) = search rules in
    let share_fits : FitsSigned w64 c.in-Some.share = search rules in
    let grown : c.in-Some.share ≡ slice_index_or c.loop-column.shares term.0 (pos 0) +ℤ c.entry_product-product.result = simp to_z-of_z at c.in-Some.ensures.value in
    let place = column-in 0 _ c.args.terms.now c.loop-column.column-index (0, pos 0) c.requires.terms c.loop-column-test.true in
    let next = add-step _ c.args.terms.now c.loop-column.column-index (0, pos 0) c.args.multiplier c.args.shares.now c.loop-column.shares c.in-Some.share c.requires.terms c.loop-column-test.true (omega (arith, place, c.loop-column.invariant.len)) added (grown ∙ ap (λ (z : ℤ). slice_index_or c.loop-column.shares term.0 (pos 0) +ℤ z) product) in
    simp (to_z-of_z, add-one) (record {
      added = next;
      small = small-set c.loop-column.shares term.0 c.in-Some.share c.loop-column.invariant.small (omega (arith, place, c.loop-column.invariant.len)) c.in-Some.ensures.limit;
      len = length-set c.loop-column.shares term.0 c.in-Some.share ∙ c.loop-column.invariant.len;
    })

pub returns-clause-value : goal.returns-clause-value
returns-clause-value c e =
    let multiplier_fits : FitsSigned w64 c.args.multiplier = omega (arith, ints, c.requires.multiplier) in
    let added : IsAdded c.args.terms.now c.args.multiplier c.loop-column.column-index c.args.shares.now c.loop-column.shares = simp to_z-of_z at c.loop-column.invariant.added in
    added-all c.args.terms.now c.loop-column.column-index c.args.multiplier c.args.shares.now c.loop-column.shares (omega arith) added
