use Rattle.std.proofs.Common.{rules, arith, ◌∙◌, ◌≤◌, ◌^◌, subst, ℤ, [], unsigned_abs, FitsSigned, w64}
use Rattle.std.specs.Prelude.{slice_index_or}
use Rattle.std.proofs.lemmas.Int.{ints, to_z-of_z}
use Rattle.int_model.specs.RowSums.{least_sum}
use Rattle.tighten.specs.Cuts.{IsSlack, no_ends}
use Rattle.tighten.specs.Engines.{box_in}
use Rattle.tighten.specs.Steps.{rows_of}
use Rattle.tighten.proofs.EngineLemmas.{item-at, small-least, small-most}
use Rattle.tighten.proofs.engine.Engine.slack_of.Goals as goal

pub slack-requires-clause-least : goal.slack-requires-clause-least
slack-requires-clause-least c =
    let at = item-at c.args.self.now.least.items c.args.row c.index.result.now c.index.ensures (omega (arith, c.requires.row, c.requires.loaded.sized.least)) in
    let small : unsigned_abs c.index.result.now ≤ 10 ^ 18 = rw at (small-least c.args.model.now c.args.self.now c.columns-columns.ensures.limits c.requires.loaded c.args.row) in
    let fits : FitsSigned w64 c.index.result.now = omega (arith, ints, small) in
    simp to_z-of_z small

pub slack-requires-clause-most : goal.slack-requires-clause-most
slack-requires-clause-most c =
    let at = item-at c.args.self.now.most.items c.args.row c.index-2.result.now c.index-2.ensures (omega (arith, c.requires.row, c.requires.loaded.sized.most)) in
    let small : unsigned_abs c.index-2.result.now ≤ 10 ^ 18 = rw at (small-most c.args.model.now c.args.self.now c.columns-columns.ensures.limits c.requires.loaded c.args.row) in
    let fits : FitsSigned w64 c.index-2.result.now = omega (arith, ints, small) in
    simp to_z-of_z small

pub returns : goal.returns
returns c =
    let least_at = item-at c.args.self.now.least.items c.args.row c.index.result.now c.index.ensures (omega (arith, c.requires.row, c.requires.loaded.sized.least)) in
    let most_at = item-at c.args.self.now.most.items c.args.row c.index-2.result.now c.index-2.ensures (omega (arith, c.requires.row, c.requires.loaded.sized.most)) in
    let least_small : unsigned_abs c.index.result.now ≤ 10 ^ 18 = rw least_at (small-least c.args.model.now c.args.self.now c.columns-columns.ensures.limits c.requires.loaded c.args.row) in
    let most_small : unsigned_abs c.index-2.result.now ≤ 10 ^ 18 = rw most_at (small-most c.args.model.now c.args.self.now c.columns-columns.ensures.limits c.requires.loaded c.args.row) in
    let least_fits : FitsSigned w64 c.index.result.now = omega (arith, ints, least_small) in
    let most_fits : FitsSigned w64 c.index-2.result.now = omega (arith, ints, most_small) in
    let slack_fits : FitsSigned w64 c.slack.result = search rules in
    let is_slack = simp to_z-of_z at c.slack.ensures in
    simp to_z-of_z (subst (λ (z : ℤ). IsSlack (slice_index_or c.args.ends.now c.args.row no_ends) (least_sum (slice_index_or (rows_of c.args.model.now) c.args.row []) (box_in c.args.self.now)) z c.slack.result) (most_at ∙ c.requires.loaded.most c.args.row)
    (subst (λ (z : ℤ). IsSlack (slice_index_or c.args.ends.now c.args.row no_ends) z c.index-2.result.now c.slack.result) (least_at ∙ c.requires.loaded.least c.args.row) is_slack))
