use Rattle.std.proofs.Common.{rules, arith, ◌≡◌, ◌^◌}
use Rattle.std.proofs.lemmas.Int.{ints}
use Rattle.dual_bounds.proofs.ProductLemmas.{product-kept, product-limit}
use Rattle.dual_bounds.proofs.shared.product.Goals as goal

pub returns-clause-value : goal.returns-clause-value
returns-clause-value c =
    let first : c.from.result ≡ c.args.reduced = search rules in
    let same : c.from-2.result ≡ c.args.number = search rules in
    product-kept c.args.reduced c.args.number c.from.result c.from-2.result (2 ^ 63) (10 ^ 6) first same (omega (arith, ints, c.ranges.reduced)) c.requires.number (omega arith) (omega arith) (omega arith)

pub returns-clause-limit : goal.returns-clause-limit
returns-clause-limit c =
    let first : c.from.result ≡ c.args.reduced = search rules in
    let same : c.from-2.result ≡ c.args.number = search rules in
    rw (product-kept c.args.reduced c.args.number c.from.result c.from-2.result (2 ^ 63) (10 ^ 6) first same (omega (arith, ints, c.ranges.reduced)) c.requires.number (omega arith) (omega arith) (omega arith))
    (omega (arith, product-limit c.args.reduced c.args.number (2 ^ 63) (10 ^ 6) (omega (arith, ints, c.ranges.reduced)) c.requires.number))
