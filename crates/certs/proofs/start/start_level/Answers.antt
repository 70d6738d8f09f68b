use Rattle.std.proofs.Common.{arith, ◌≡◌, ◌∙◌, ◌≤◌, ◌^◌, ◌+ℤ◌, ap, sym, ℤ, List, unsigned_abs, FitsSigned, w64}
use Rattle.std.proofs.lemmas.Int.{ints, to_z-of_z}
use Rattle.int_model.specs.Boxes.{box_of}
use Rattle.scenario_changes.specs.Problems.{problem, program_at}
use Rattle.certs.specs.Costs.{least_cost}
use Rattle.certs.proofs.ProblemLemmas.{sides_same}
use Rattle.certs.proofs.StartLemmas.{start-empty, start-value}
use Rattle.certs.proofs.start.start_level.Goals as goal

pub returns-then-has_empty : goal.returns-then-has_empty
returns-then-has_empty c =
    let same : box_of c.lows-lows.result.now c.highs-highs.result.now ≡ (program_at (problem c.args.problem.now) c.args.s).bounds = sides_same _ _ _ c.lows-lows.ensures.value c.highs-highs.ensures.value in
    start-empty (problem c.args.problem.now) c.args.s (box_of c.lows-lows.result.now c.highs-highs.result.now) c.count-count.ensures.limits c.requires same (sym c.has_empty.ensures ∙ c.if-has_empty.true)

pub returns : goal.returns
returns c =
    let same : box_of c.lows-lows.result.now c.highs-highs.result.now ≡ (program_at (problem c.args.problem.now) c.args.s).bounds = sides_same _ _ _ c.lows-lows.ensures.value c.highs-highs.ensures.value in
    let cost : c.least_cost.result ≡ least_cost (program_at (problem c.args.problem.now) c.args.s).costs (box_of c.lows-lows.result.now c.highs-highs.result.now) = c.least_cost.ensures.value ∙ ap (λ (cs : List ℤ). least_cost cs (box_of c.lows-lows.result.now c.highs-highs.result.now)) c.costs.ensures.value in
    let cost_fits : FitsSigned w64 c.least_cost.result = omega (arith, ints, c.least_cost.ensures.limit) in
    let constant_fits : FitsSigned w64 c.constant.result = omega (arith, ints, c.constant.ensures.limits) in
    let small : unsigned_abs (c.least_cost.result +ℤ c.constant.result) ≤ 2 ^ 60 = omega (arith, ints, c.least_cost.ensures.limit, c.constant.ensures.limits) in
    let fits : FitsSigned w64 (c.least_cost.result +ℤ c.constant.result) = omega (arith, ints, small) in
    rw (to_z-of_z w64 c.least_cost.result cost_fits, to_z-of_z w64 c.constant.result constant_fits, to_z-of_z w64 (c.least_cost.result +ℤ c.constant.result) fits)
    (start-value (problem c.args.problem.now) c.args.s (box_of c.lows-lows.result.now c.highs-highs.result.now) c.least_cost.result c.constant.result c.count-count.ensures.limits c.requires same (sym c.has_empty.ensures ∙ c.if-has_empty.false) cost (c.constant.ensures.value c.args.s c.requires) small)
