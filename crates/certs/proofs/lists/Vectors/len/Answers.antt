use Rattle.std.proofs.Common.{◌∙◌, sym, ap, length}
use Rattle.dual_bounds.specs.Vectors.{Multipliers}
use Rattle.std.proofs.Common.{List}
use Rattle.certs.proofs.PlaceLemmas.{length-held}
use Rattle.certs.proofs.lists.Vectors.len.Goals as goal

pub returns-clause-value : goal.returns-clause-value
returns-clause-value c = c.len.ensures.value ∙ sym (length-held c.self.inside.places.items c.self.invariant.taken) ∙ ap (λ (vs : List Multipliers). length vs) c.self.view_is
