use Rattle.std.specs.Cmp.{nat_cmp_total}
use Rattle.std.specs.FinMap.{get-from_entries}
use Rattle.desk.proofs.memory.kept_at.Goals as goal

pub loop-failure-init : goal.loop-failure-init
loop-failure-init c = get-from_entries nat_cmp_total _ _
