use Rattle.certs.proofs.SetLemmas.{set_rises}
use Rattle.certs.proofs.stayers.rising.Goals as goal

pub returns : goal.returns
returns c = set_rises c.args.set c.iter-members.ensures.set
