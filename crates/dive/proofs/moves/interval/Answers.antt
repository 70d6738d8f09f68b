use Rattle.std.proofs.Common.{rules, arith, ◌≡◌, ◌∙◌, ap, sym, ℤ, List, pos, get_or, FitsSigned, w32}
use Rattle.std.proofs.lemmas.Int.{ints}
use Rattle.dive.proofs.PartLemmas.{lows-at, highs-at, ordered-at}
use Rattle.dive.proofs.moves.interval.Goals as goal

pub returns : goal.returns
returns c =
    let low_fits : FitsSigned w32 (get_or c.lows.result.now c.args.column (pos 0)) = search rules in
    let high_fits : FitsSigned w32 (get_or c.highs.result.now c.args.column (pos 0)) = search rules in
    let low = ap (λ (l : List ℤ). get_or l c.args.column (pos 0)) c.lows.ensures.value ∙ lows-at c.args.bounds.now c.args.column in
    let high = ap (λ (l : List ℤ). get_or l c.args.column (pos 0)) c.highs.ensures.value ∙ highs-at c.args.bounds.now c.args.column in
    omega (arith, ints, low, high, ordered-at c.args.bounds.now c.args.column c.requires.occupied)
