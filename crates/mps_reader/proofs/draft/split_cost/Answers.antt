use Rattle.std.proofs.Common.{◌∙◌, arith, pos, w64, FitsSigned, get_or}
use Rattle.std.proofs.lemmas.Int.{ints, to_z-of_z}
use Rattle.mps_reader.proofs.MadeLemmas.{cost_head}
use Rattle.mps_reader.proofs.draft.split_cost.Goals as goal

pub returns-in-len1-up : goal.returns-in-len1-up
returns-in-len1-up c = λ ls name names e.
    let p = cost_head c.args.costs.now c.args.number ls name names (0, pos 0) c.in-len1-up.len_at_least c.if-first-number.true e in
    let fits : FitsSigned w64 (get_or c.args.costs.now 0 (0, pos 0)).1 = omega (arith, ints) in
    (to_z-of_z w64 (get_or c.args.costs.now 0 (0, pos 0)).1 fits ∙ p.0, p.1)
