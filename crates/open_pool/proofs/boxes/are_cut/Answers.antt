use Rattle.std.proofs.Common.{◌≡◌, sym, ◌∙◌, get_or, slice_set, pos, ◌+ℤ◌, FitsSigned, w32, rules}
use Rattle.std.proofs.lemmas.Int.{to_z-of_z}
use Rattle.int_model.specs.Boxes.{below_cut, above_cut}
use Rattle.open_pool.proofs.BoxLemmas.{made_below, made_above, next_fits}
use Rattle.open_pool.proofs.boxes.are_cut.Goals as goal

pub returns-then-is_left-clause-yes : goal.returns-then-is_left-clause-yes
returns-then-is_left-clause-yes c =
    let fits : FitsSigned w32 c.args.value = search rules in
    let low_fits : FitsSigned w32 (get_or c.lows.result.now c.args.column (pos 0)) = search rules in
    let set : c.set.new.self ≡ slice_set c.args.hull.now c.args.column (record { low = get_or c.lows.result.now c.args.column (pos 0); high = c.args.value }) = simp to_z-of_z at c.set.ensures in
    let below : c.set.new.self ≡ below_cut c.args.hull.now c.args.column c.args.value = made_below c.args.hull.now c.set.new.self c.lows.result.now c.args.column c.args.value c.requires.inside c.lows.ensures.value set in
    let high_fits : FitsSigned w32 (get_or c.highs.result.now c.args.column (pos 0)) = search rules in
    let next : FitsSigned w32 (c.args.value +ℤ pos 1) = next_fits c.args.hull.now c.highs.result.now c.args.column c.args.value c.requires.inside c.highs.ensures.value fits high_fits in
    let more : c.set-2.new.self ≡ slice_set c.set.new.self c.args.column (record { low = c.args.value +ℤ pos 1; high = get_or c.highs.result.now c.args.column (pos 0) }) = simp to_z-of_z at c.set-2.ensures in
    let above : c.set-2.new.self ≡ above_cut c.args.hull.now c.args.column c.args.value = made_above c.args.hull.now c.set.new.self c.set-2.new.self c.highs.result.now c.args.column c.args.value _ c.requires.inside c.highs.ensures.value set more in
    λ same. (sym (c.is_same_box-is_left.ensures.yes c.if-is_left.true) ∙ below, sym (c.is_same_box-is_right.ensures.yes same) ∙ above)

pub returns-then-is_left-clause-no : goal.returns-then-is_left-clause-no
returns-then-is_left-clause-no c =
    let fits : FitsSigned w32 c.args.value = search rules in
    let low_fits : FitsSigned w32 (get_or c.lows.result.now c.args.column (pos 0)) = search rules in
    let set : c.set.new.self ≡ slice_set c.args.hull.now c.args.column (record { low = get_or c.lows.result.now c.args.column (pos 0); high = c.args.value }) = simp to_z-of_z at c.set.ensures in
    let below : c.set.new.self ≡ below_cut c.args.hull.now c.args.column c.args.value = made_below c.args.hull.now c.set.new.self c.lows.result.now c.args.column c.args.value c.requires.inside c.lows.ensures.value set in
    let high_fits : FitsSigned w32 (get_or c.highs.result.now c.args.column (pos 0)) = search rules in
    let next : FitsSigned w32 (c.args.value +ℤ pos 1) = next_fits c.args.hull.now c.highs.result.now c.args.column c.args.value c.requires.inside c.highs.ensures.value fits high_fits in
    let more : c.set-2.new.self ≡ slice_set c.set.new.self c.args.column (record { low = c.args.value +ℤ pos 1; high = get_or c.highs.result.now c.args.column (pos 0) }) = simp to_z-of_z at c.set-2.ensures in
    let above : c.set-2.new.self ≡ above_cut c.args.hull.now c.args.column c.args.value = made_above c.args.hull.now c.set.new.self c.set-2.new.self c.highs.result.now c.args.column c.args.value _ c.requires.inside c.highs.ensures.value set more in
    λ other left right. c.is_same_box-is_right.ensures.no other (above ∙ sym right)

pub returns-else-is_left-clause-no : goal.returns-else-is_left-clause-no
returns-else-is_left-clause-no c =
    let fits : FitsSigned w32 c.args.value = search rules in
    let low_fits : FitsSigned w32 (get_or c.lows.result.now c.args.column (pos 0)) = search rules in
    let set : c.set.new.self ≡ slice_set c.args.hull.now c.args.column (record { low = get_or c.lows.result.now c.args.column (pos 0); high = c.args.value }) = simp to_z-of_z at c.set.ensures in
    let below : c.set.new.self ≡ below_cut c.args.hull.now c.args.column c.args.value = made_below c.args.hull.now c.set.new.self c.lows.result.now c.args.column c.args.value c.requires.inside c.lows.ensures.value set in
    λ other left right. c.is_same_box-is_left.ensures.no c.if-is_left.false (below ∙ sym left)
