use Rattle.std.proofs.Common.{arith, ◌≤◌, ap, ◌∙◌, List, length, slice_get}
use Rattle.certs.specs.declared.level.Level.{Level}
use Rattle.certs.specs.Trees.{of_live}
use Rattle.certs.proofs.ArrivalLemmas.{made_kept, made_others}
use Rattle.certs.proofs.arriving.children_levels.Goals as goal

pub returns-clause-kept : goal.returns-clause-kept
returns-clause-kept c =
    let low : length c.args.levels.now ≤ c.loop-k.k = omega (arith, ap length c.as_slice-items.ensures, c.loop-k-test.false) in
    let high : c.loop-k.k ≤ length c.args.levels.now = omega (arith, ap length c.as_slice-items.ensures, c.loop-k.auto.k-end) in
    ap (λ (xs : List Level). of_live c.args.stay 0 xs) c.from_vec.ensures ∙ made_kept c.args.stay c.args.levels.now c.args.raised.now c.loop-k.k c.loop-k.made.items c.loop-k.invariant low high c.requires.count

pub returns-clause-others : goal.returns-clause-others
returns-clause-others c = λ m e.
    let low : length c.args.levels.now ≤ c.loop-k.k = omega (arith, ap length c.as_slice-items.ensures, c.loop-k-test.false) in
    ap (λ (xs : List Level). slice_get xs m) c.from_vec.ensures ∙ made_others c.args.stay c.args.levels.now c.args.raised.now c.loop-k.k c.loop-k.made.items c.loop-k.invariant low m e

pub returns-clause-count : goal.returns-clause-count
returns-clause-count c =
    let low : length c.args.levels.now ≤ c.loop-k.k = omega (arith, ap length c.as_slice-items.ensures, c.loop-k-test.false) in
    let high : c.loop-k.k ≤ length c.args.levels.now = omega (arith, ap length c.as_slice-items.ensures, c.loop-k.auto.k-end) in
    ap length c.from_vec.ensures ∙ c.loop-k.invariant.count ∙ omega (arith, low, high)
