use Rattle.certs.proofs.ClaimLaws.{orders}
use Rattle.certs.proofs.laws.order_tells_bounds.Goals as goal

pub returns : goal.returns
returns c = orders
