use Rattle.std.proofs.Common.{ap, sym, ◌∙◌}
use Rattle.std.specs.Prelude.{option_copied}
use Rattle.certs.specs.Trees.{vector_within}
use Rattle.certs.proofs.FitLemmas.{list_all-not}
use Rattle.certs.proofs.cert.vectors_fit.Goals as goal

pub returns-in-loop-k-clause-value : goal.returns-in-loop-k-clause-value
returns-in-loop-k-clause-value c =
    list_all-not (vector_within c.args.rows) c.args.vectors.now c.loop-k.k c.in-Some.vector.now (sym c.get.ensures ∙ ap option_copied c.in-Some.is) (sym c.entries_fit.ensures ∙ c.if-not-entries_fit.true)
