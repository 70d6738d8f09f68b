use Rattle.std.proofs.Common.{rules, arith, ◌≡◌, ◌^◌, ◌≤◌, unsigned_abs, FitsSigned, w64}
use Rattle.std.proofs.lemmas.Int.{ints}
use Rattle.dual_bounds.proofs.ProductLemmas.{product-kept, product-limit}
use Rattle.dual_bounds.proofs.parts.end_times.Goals as goal

pub returns-clause-limit : goal.returns-clause-limit
returns-clause-limit c =
    let same : c.from.result ≡ c.args.multiplier = search rules in
    let end : c.from-2.result ≡ c.args.end = search rules in
    let fits : FitsSigned w64 c.args.end = c.ranges.end in
    let limit : unsigned_abs c.args.end ≤ 2 ^ 63 = omega (arith, ints, fits) in
    rw (product-kept c.args.multiplier c.args.end c.from.result c.from-2.result (2 ^ 40) (2 ^ 63) same end c.requires limit (omega arith) (omega arith) (omega arith))
    (omega (arith, product-limit c.args.multiplier c.args.end (2 ^ 40) (2 ^ 63) c.requires limit))
