use Rattle.std.proofs.Common.{rules, arith, ◌≡◌, ◌∙◌, ap, ℕ, ℤ, pos, ◌≤◌, ◌^◌, leb, true, false, unsigned_abs, neg_ℤ, FitsSigned, w64, of_z, to_z}
use Rattle.std.proofs.lemmas.List.{get_or_read}
use Rattle.std.specs.Prelude.{int_lt}
use Rattle.std.proofs.lemmas.Int.{ints, to_z-of_z}
use Rattle.std.proofs.lemmas.Bool.{false≢true}
use Rattle.std.proofs.lemmas.Bool.Decides.{nat_tests}
use Rattle.int_model.specs.Integers.{int_at}
use Rattle.dual_search.specs.Gains.{entry_count}
use Rattle.dual_search.proofs.AscentLemmas.{limits-told, limits-kept, entries-after}
use Rattle.dual_search.proofs.ascent.Ascent.admits.Goals.{then-to-via-then-to, then-to-via-else-to+then-to-gt-MOST}
use Rattle.dual_search.proofs.ascent.Ascent.admits.Goals as goal

pub returns-then-to : goal.returns-then-to
returns-then-to c = (
  λ e. absurd (false≢true e),
  λ h.
      let small = limits-told c.args.self.now c.args.row c.args.to c.requires.row h in
      elim c.then-to.branch [ then-to-via-then-to w ↦ absurd (omega (arith, ints, small)) | then-to-via-else-to+then-to-gt-MOST w ↦ absurd (omega (arith, ints, small)) ],
)

pub overflow_sub-result : goal.overflow_sub-result
overflow_sub-result c =
    let read : c.index-from.result.now ≡ int_at c.args.self.now.multipliers.items c.args.row = get_or_read c.args.self.now.multipliers.items c.args.row c.index-from.result.now c.requires.row c.index-from.ensures (pos 0) in
    let fits : FitsSigned w64 c.index-from.result.now = search rules in
    let from = to_z-of_z w64 c.index-from.result.now fits ∙ read in
    let to_fits : FitsSigned w64 c.args.to = c.ranges.to in
    let count : c.entry_count.result ≡ entry_count c.args.to = c.entry_count.ensures.value ∙ ap entry_count (to_z-of_z w64 c.args.to to_fits) in
    let after = entries-after c.args.self.now c.args.row _ c.args.to c.entry_count.result c.entry_count-2.result c.requires.vector c.requires.row from count c.entry_count-2.ensures.value in
    omega (arith, after)

pub returns : goal.returns
returns c =
    let read : c.index-from.result.now ≡ int_at c.args.self.now.multipliers.items c.args.row = get_or_read c.args.self.now.multipliers.items c.args.row c.index-from.result.now c.requires.row c.index-from.ensures (pos 0) in
    let fits : FitsSigned w64 c.index-from.result.now = search rules in
    let from = to_z-of_z w64 c.index-from.result.now fits ∙ read in
    let to_fits : FitsSigned w64 c.args.to = c.ranges.to in
    let to : to_z w64 (of_z w64 c.args.to) ≡ c.args.to = to_z-of_z w64 c.args.to to_fits in
    let count : c.entry_count.result ≡ entry_count c.args.to = c.entry_count.ensures.value ∙ ap entry_count to in
    let after = entries-after c.args.self.now c.args.row _ c.args.to c.entry_count.result c.entry_count-2.result c.requires.vector c.requires.row from count c.entry_count-2.ensures.value in
    let small : unsigned_abs c.args.to ≤ 2 ^ 40 = within_of c.args.to _ to c.if-to.false c.if-to-gt-MOST.false in (
      λ e. limits-kept c.args.self.now c.args.row c.args.to c.requires.vector c.requires.row small (omega (arith, after, le-from-leb _ _ e)),
      λ h. leb-from-le _ _ (omega (arith, after, h.few)),
    )
  where
    le-from-leb : (m n : ℕ) → leb m n ≡ true → m ≤ n
    le-from-leb m n e = grind (arith, nat_tests, e)

    leb-from-le : (m n : ℕ) → m ≤ n → leb m n ≡ true
    leb-from-le m n h = grind (arith, nat_tests, h)

    within_of : (z w : ℤ) → w ≡ z → int_lt w (neg_ℤ (pos (2 ^ 40))) ≡ false → int_lt (pos (2 ^ 40)) w ≡ false → unsigned_abs z ≤ 2 ^ 40
    within_of z w e f g = omega (arith, ints, e, f, g)
