use Rattle.std.proofs.Common.{rules}
use Rattle.scenario_changes.proofs.NumberLemmas.{base-good}
use Rattle.scenario_changes.proofs.numbers.base_numbers.Goals as goal

pub new-requires-2 : goal.new-requires-2
new-requires-2 c = base-good c.args.model.now c.columns.result c.rows.result c.in_ok-base.base (search rules) (search rules) c.in_ok-base.ensures
