use Rattle.std.proofs.Common.{arith, ◌∙◌, ◌<◌, ap, sym, subst, ◌++◌, ◌∷◌, [], length, List, Option}
use Rattle.dual_bounds.specs.Vectors.{Multipliers}
use Rattle.certs.specs.Places.{held}
use Rattle.certs.proofs.PlaceLemmas.{pushed, held-push, length-held}
use Rattle.certs.proofs.lists.Vectors.push.Goals as goal

pub push_reserved-requires : goal.push_reserved-requires
push_reserved-requires c =
    let few : length (held c.self.inside.places.items) < 2 = subst (λ (vs : List Multipliers). length vs < 2) (sym c.self.view_is) c.requires in
    (omega arith, omega (arith, few, length-held c.self.inside.places.items c.self.invariant.taken, c.self.invariant.room))

pub invariant_of-self : goal.invariant_of-self
invariant_of-self c =
    let few : length (held c.self.inside.places.items) < 2 = subst (λ (vs : List Multipliers). length vs < 2) (sym c.self.view_is) c.requires in
    pushed c.self.inside.places c.push_reserved.new.self c.args.vector c.self.invariant few c.push_reserved.ensures.items c.push_reserved.ensures.capacity

pub returns : goal.returns
returns c =
    ap (λ (places : List (Option Multipliers)). held places) c.push_reserved.ensures.items
    ∙ held-push c.self.inside.places.items c.args.vector c.self.invariant.taken
    ∙ ap (λ (vs : List Multipliers). vs ++ c.args.vector ∷ []) c.self.view_is
