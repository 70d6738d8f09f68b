use Rattle.std.proofs.Common.{◌+◌, ◌≡◌, ◌∙◌, sym, subst, arith, List, ℕ, true, false}
use Rattle.open_pool.proofs.MemberLaws.{MembersSoFar, members-more, members-same}
use Rattle.open_pool.proofs.members.members_below.Goals as goal
use Rattle.open_pool.proofs.members.members_below.Goals.{then-contains, else-contains}

pub loop-s-preserved : goal.loop-s-preserved
loop-s-preserved c = elim c.if-contains.branch [
  | then-contains w ↦ subst (λ (xs : List ℕ). MembersSoFar c.args.live (c.loop-s.s + 1) xs) (sym w.members-is) (members-more c.args.live c.loop-s.members w.insert.new.self c.loop-s.s c.loop-s.invariant (c.contains.ensures.member.0 w.if-contains.true) w.insert.ensures.members)
  | else-contains w ↦ subst (λ (xs : List ℕ). MembersSoFar c.args.live (c.loop-s.s + 1) xs) (sym w.members-is) (members-same c.args.live c.loop-s.members c.loop-s.s c.loop-s.invariant (λ m. (let yes = c.contains.ensures.member.1 m in absurd (let no : true ≡ false = sym yes ∙ w.if-contains.false in cc))))
]

pub returns : goal.returns
returns c =
    let all : c.loop-s.s ≡ c.args.count = omega (arith, c.loop-s-test.false, c.loop-s.auto.s-end) in
    subst (λ (n : ℕ). MembersSoFar c.args.live n c.loop-s.members) all c.loop-s.invariant
