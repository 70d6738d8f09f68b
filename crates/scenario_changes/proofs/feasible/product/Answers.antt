use Rattle.std.proofs.Common.{rules}
use Rattle.scenario_changes.proofs.SumLemmas.{product_kept, product_limit}
use Rattle.scenario_changes.proofs.feasible.product.Goals as goal

pub returns-clause-value : goal.returns-clause-value
returns-clause-value c = product_kept c.args.coefficient c.args.number c.from.result c.requires.coefficient c.requires.number (search rules)

pub returns-clause-limit : goal.returns-clause-limit
returns-clause-limit c = rw (product_kept c.args.coefficient c.args.number c.from.result c.requires.coefficient c.requires.number (search rules)) (product_limit c.args.coefficient c.args.number c.requires.coefficient c.requires.number)
