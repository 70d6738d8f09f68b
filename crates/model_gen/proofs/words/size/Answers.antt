use Rattle.std.proofs.Common.{◌∙◌, ◌+◌, ◌/◌, ap}
use Rattle.model_gen.proofs.DrawLemmas.{size_is}
use Rattle.model_gen.proofs.words.size.Goals as goal

pub returns-clause-value : goal.returns-clause-value
returns-clause-value c = ap (λ n. c.args.columns / c.args.rows + n) c.from.ensures ∙ size_is c.args.columns c.args.rows c.args.i c.requires.row
