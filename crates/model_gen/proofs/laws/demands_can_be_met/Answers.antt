use Rattle.model_gen.proofs.TextLengths.{demand_at_most}
use Rattle.model_gen.proofs.laws.demands_can_be_met.Goals as goal

pub returns : goal.returns
returns c = demand_at_most
