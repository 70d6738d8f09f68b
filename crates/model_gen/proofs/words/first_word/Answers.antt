use Rattle.std.proofs.Common.{arith}
use Rattle.model_gen.proofs.DrawLemmas.{filled_all}
use Rattle.model_gen.proofs.words.first_word.Goals as goal

pub returns-clause-value : goal.returns-clause-value
returns-clause-value c = omega (arith, c.min.ensures, filled_all c.args.columns c.args.rows)
