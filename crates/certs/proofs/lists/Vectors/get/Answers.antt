use Rattle.std.proofs.Common.{arith, ◌≤◌, ◌∙◌, ap, sym, length, List}
use Rattle.std.specs.Prelude.{slice_get, option_copied}
use Rattle.std.proofs.lemmas.Bool.Decides.{nat_tests}
use Rattle.dual_bounds.specs.Vectors.{Multipliers}
use Rattle.certs.proofs.PlaceLemmas.{held-past}
use Rattle.certs.proofs.lists.Vectors.get.Goals as goal

pub returns-in_err-get : goal.returns-in_err-get
returns-in_err-get c =
    let read : length c.as_slice.result.now ≤ c.args.k = grind (arith, nat_tests, c.in_err-get.ensures.lookup.0) in
    let past : length c.self.inside.places.items ≤ c.args.k = omega (arith, read, ap length c.as_slice.ensures) in
    ap option_copied c.from_residual.ensures ∙ sym (held-past c.self.inside.places.items c.args.k c.self.invariant.taken past) ∙ ap (λ (vs : List Multipliers). slice_get vs c.args.k) c.self.view_is
