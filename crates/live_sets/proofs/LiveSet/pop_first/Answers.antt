use Rattle.std.proofs.Common.{◌≡◌, [], sym, ap, ◌∙◌, arith}
use Rattle.live_sets.specs.Members.{members}
use Rattle.live_sets.proofs.BitSets.{members-zero, members-lowest}
use Rattle.live_sets.proofs.LiveSet.pop_first.Goals as goal

pub returns-then-self-eq0 : goal.returns-then-self-eq0
returns-then-self-eq0 c =
    let empty : c.args.self.now ≡ [] = sym c.self.view_is ∙ ap members c.if-self-eq0.true ∙ members-zero in
    (empty, empty)

pub returns : goal.returns
returns c = sym c.self.view_is ∙ members-lowest c.self.inside.bits (omega arith) c.self.invariant
