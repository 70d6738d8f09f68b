use Rattle.std.proofs.Common.{arith, ◌∙◌, ◌<◌}
use Rattle.model_gen.proofs.DrawLemmas.{size_some, filled_all, demand_some}
use Rattle.model_gen.proofs.words.demand.Goals as goal

pub bounds-words-columns : goal.bounds-words-columns
bounds-words-columns c =
    let some : c.args.i < c.args.columns = size_some c.args.columns c.args.rows c.args.i c.requires.row (λ none. c.if-size-eq0.false (c.size-size.ensures.value ∙ none)) in
    omega (arith, c.requires.words, c.requires.row, filled_all c.args.columns c.args.rows)

pub returns : goal.returns
returns c = demand_some c.args.words.now c.args.columns c.args.rows c.args.i _ c.requires.row c.size-size.ensures.value c.if-size-eq0.false
