use Rattle.std.proofs.Common.{rules, arith, ◌≡◌, ◌∙◌, ap, sym, subst, ℤ, List, pos, get_or, FitsSigned, w32}
use Rattle.std.proofs.lemmas.Int.{ints, to_z-of_z}
use Rattle.int_model.specs.Boxes.{interval_at}
use Rattle.tighten.specs.Engines.{box_in}
use Rattle.dive.proofs.PartLemmas.{low-at, high-at, ordered-at}
use Rattle.dive.proofs.diver.Diver.interval.Goals as goal

pub returns-clause-low : goal.returns-clause-low
returns-clause-low c =
    let fits : FitsSigned w32 (get_or c.lows.result.now c.args.column (pos 0)) = search rules in
    simp to_z-of_z (ap (λ (l : List ℤ). get_or l c.args.column (pos 0)) c.lows.ensures ∙ sym (low-at c.args.self.now.engine.low.items c.args.self.now.engine.high.items c.args.column c.requires.sides))

pub returns-clause-high : goal.returns-clause-high
returns-clause-high c =
    let fits : FitsSigned w32 (get_or c.highs.result.now c.args.column (pos 0)) = search rules in
    simp to_z-of_z (ap (λ (l : List ℤ). get_or l c.args.column (pos 0)) c.highs.ensures ∙ sym (high-at c.args.self.now.engine.low.items c.args.self.now.engine.high.items c.args.column c.requires.sides))

pub returns-clause-order : goal.returns-clause-order
returns-clause-order c =
    let low_fits : FitsSigned w32 (get_or c.lows.result.now c.args.column (pos 0)) = search rules in
    let high_fits : FitsSigned w32 (get_or c.highs.result.now c.args.column (pos 0)) = search rules in
    let low = ap (λ (l : List ℤ). get_or l c.args.column (pos 0)) c.lows.ensures ∙ sym (low-at c.args.self.now.engine.low.items c.args.self.now.engine.high.items c.args.column c.requires.sides) in
    let high = ap (λ (l : List ℤ). get_or l c.args.column (pos 0)) c.highs.ensures ∙ sym (high-at c.args.self.now.engine.low.items c.args.self.now.engine.high.items c.args.column c.requires.sides) in
    omega (arith, ints, low, high, ordered-at (box_in c.args.self.now.engine) c.args.column c.requires.occupied)
