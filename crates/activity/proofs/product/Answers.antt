use Rattle.std.proofs.Common.{rules}
use Rattle.activity.proofs.SumLemmas.{product_kept, product_limit}
use Rattle.activity.proofs.product.Goals as goal

pub returns-clause-value : goal.returns-clause-value
returns-clause-value c = product_kept c.args.coefficient c.args.bound c.from.result c.requires.coefficient c.requires.bound (search rules)

pub returns-clause-limit : goal.returns-clause-limit
returns-clause-limit c = rw (product_kept c.args.coefficient c.args.bound c.from.result c.requires.coefficient c.requires.bound (search rules)) (product_limit c.args.coefficient c.args.bound c.requires.coefficient c.requires.bound)
