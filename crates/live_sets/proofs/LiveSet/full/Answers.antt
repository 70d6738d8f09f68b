use Rattle.std.proofs.Common.{◌≡◌, arith, lit≤}
use Rattle.std.proofs.lemmas.Nat.{one_shl}
use Rattle.live_sets.proofs.BitSets.{members-ones}
use Rattle.live_sets.proofs.LiveSet.full.Goals as goal

pub returns-then-n-eq64 : goal.returns-then-n-eq64
returns-then-n-eq64 c = let e : c.args.n ≡ 64 = omega arith in rw e (members-ones 64 (lit≤ tt))

pub returns-else-n-eq64 : goal.returns-else-n-eq64
returns-else-n-eq64 c = rw (one_shl c.args.n 64 (omega arith)) (members-ones c.args.n c.requires)
