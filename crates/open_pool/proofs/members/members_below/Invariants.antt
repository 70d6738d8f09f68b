use Rattle.open_pool.proofs.MemberLaws.{MembersSoFar}
use Rattle.open_pool.proofs.members.members_below.Given as goal

abbrev pub invariant-loop-s : goal.invariant-loop-s
invariant-loop-s l = MembersSoFar l.live l.s l.members
