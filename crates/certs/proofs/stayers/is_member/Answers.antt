use Rattle.certs.proofs.SetLemmas.{member_is}
use Rattle.certs.proofs.stayers.is_member.Goals as goal

pub returns : goal.returns
returns c = member_is c.contains.result c.args.set c.args.s c.contains.ensures.member
