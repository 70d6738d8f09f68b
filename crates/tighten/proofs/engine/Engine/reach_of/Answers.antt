use Rattle.std.proofs.Common.{arith, ◌≤◌, ◌^◌, ◌-ℤ◌, unsigned_abs, FitsSigned, w64}
use Rattle.std.proofs.lemmas.Int.{ints, to_z-of_z}
use Rattle.tighten.proofs.EngineLemmas.{item-at, small-least, small-most}
use Rattle.tighten.proofs.engine.Engine.reach_of.Goals as goal

pub overflow_sub-result : goal.overflow_sub-result
overflow_sub-result c =
    let least_at = item-at c.args.self.now.least.items c.args.row c.index-2.result.now c.index-2.ensures (omega (arith, c.requires.row, c.requires.loaded.sized.least)) in
    let most_at = item-at c.args.self.now.most.items c.args.row c.index.result.now c.index.ensures (omega (arith, c.requires.row, c.requires.loaded.sized.most)) in
    let least_small : unsigned_abs c.index-2.result.now ≤ 10 ^ 18 = rw least_at (small-least c.args.model.now c.args.self.now c.columns-columns.ensures.limits c.requires.loaded c.args.row) in
    let most_small : unsigned_abs c.index.result.now ≤ 10 ^ 18 = rw most_at (small-most c.args.model.now c.args.self.now c.columns-columns.ensures.limits c.requires.loaded c.args.row) in
    let least_fits : FitsSigned w64 c.index-2.result.now = omega (arith, ints, least_small) in
    let most_fits : FitsSigned w64 c.index.result.now = omega (arith, ints, most_small) in
    let fits : FitsSigned w64 (c.index.result.now -ℤ c.index-2.result.now) = omega (arith, ints, least_small, most_small) in
    simp to_z-of_z fits

pub returns : goal.returns
returns c =
    let least_at = item-at c.args.self.now.least.items c.args.row c.index-2.result.now c.index-2.ensures (omega (arith, c.requires.row, c.requires.loaded.sized.least)) in
    let most_at = item-at c.args.self.now.most.items c.args.row c.index.result.now c.index.ensures (omega (arith, c.requires.row, c.requires.loaded.sized.most)) in
    let least_small : unsigned_abs c.index-2.result.now ≤ 10 ^ 18 = rw least_at (small-least c.args.model.now c.args.self.now c.columns-columns.ensures.limits c.requires.loaded c.args.row) in
    let most_small : unsigned_abs c.index.result.now ≤ 10 ^ 18 = rw most_at (small-most c.args.model.now c.args.self.now c.columns-columns.ensures.limits c.requires.loaded c.args.row) in
    let least_fits : FitsSigned w64 c.index-2.result.now = omega (arith, ints, least_small) in
    let most_fits : FitsSigned w64 c.index.result.now = omega (arith, ints, most_small) in
    let fits : FitsSigned w64 (c.index.result.now -ℤ c.index-2.result.now) = omega (arith, ints, least_small, most_small) in
    simp to_z-of_z (omega (arith, ints, least_at, most_at, c.requires.loaded.least c.args.row, c.requires.loaded.most c.args.row))
