use Rattle.std.proofs.Common.{rules, arith, ◌≡◌, ◌^◌, ◌*◌, ◌≤◌, ℤ, ◌-ℤ◌, ◌*ℤ◌, unsigned_abs, to_z, of_z}
use Rattle.std.proofs.lemmas.Int.{ints, to_z-of_z}
use mir.Syntax.{w128}
use Rattle.dual_bounds.proofs.ProductLemmas.{product-kept, product-limit, wide-fits}
use Rattle.dual_search.proofs.reduced_costs.moved.Goals as goal

-- the difference, as the code has it
difference : (a x y s t : ℤ) → x ≡ s → y ≡ t → unsigned_abs a ≤ 2 ^ 83 → unsigned_abs s ≤ 2 ^ 41 → unsigned_abs t ≤ 10 ^ 9 → to_z w128 (of_z w128 (to_z w128 (of_z w128 a) -ℤ to_z w128 (of_z w128 (to_z w128 (of_z w128 x) *ℤ to_z w128 (of_z w128 y))))) ≡ a -ℤ s *ℤ t
difference a x y s t ex ey ha hs ht =
    let limit : unsigned_abs (s *ℤ t) ≤ 2 ^ 41 * 10 ^ 9 = product-limit s t (2 ^ 41) (10 ^ 9) hs ht in
    rw (product-kept s t x y (2 ^ 41) (10 ^ 9) ex ey hs ht (omega arith) (omega arith) (omega arith), to_z-of_z w128 a (wide-fits a (2 ^ 83) ha (omega arith)))
    (to_z-of_z w128 (a -ℤ s *ℤ t) (wide-fits (a -ℤ s *ℤ t) (2 ^ 84) (omega (arith, ints, ha, limit)) (omega arith)))

pub returns-clause-value : goal.returns-clause-value
returns-clause-value c =
    let step : c.from.result ≡ c.args.step = search rules in
    let coefficient : c.from-2.result ≡ c.args.coefficient = search rules in
    difference c.args.cost c.from.result c.from-2.result c.args.step c.args.coefficient step coefficient c.requires.cost c.requires.step c.requires.coefficient

pub returns-clause-limit : goal.returns-clause-limit
returns-clause-limit c =
    let step : c.from.result ≡ c.args.step = search rules in
    let coefficient : c.from-2.result ≡ c.args.coefficient = search rules in
    let limit : unsigned_abs (c.args.step *ℤ c.args.coefficient) ≤ 2 ^ 41 * 10 ^ 9 = product-limit c.args.step c.args.coefficient (2 ^ 41) (10 ^ 9) c.requires.step c.requires.coefficient in
    rw (difference c.args.cost c.from.result c.from-2.result c.args.step c.args.coefficient step coefficient c.requires.cost c.requires.step c.requires.coefficient)
    (omega (arith, ints, limit))
