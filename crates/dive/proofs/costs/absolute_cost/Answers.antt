use Rattle.std.proofs.Common.{arith, pos, ◌^◌, get_or, FitsSigned, w64}
use Rattle.std.proofs.lemmas.Int.{ints, to_z-of_z}
use Rattle.scenario_changes.proofs.SumLemmas.{cost_at}
use Rattle.dive.proofs.costs.absolute_cost.Goals as goal

pub abs-requires : goal.abs-requires
abs-requires c =
    let small = cost_at (10 ^ 9) c.args.costs.now c.args.column (pos 0) c.requires.limits c.requires.column in
    omega (arith, ints, small)

pub returns : goal.returns
returns c =
    let small = cost_at (10 ^ 9) c.args.costs.now c.args.column (pos 0) c.requires.limits c.requires.column in
    omega (arith, ints, small, c.abs.ensures.value)
