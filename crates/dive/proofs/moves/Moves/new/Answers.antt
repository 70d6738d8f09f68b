use Rattle.std.proofs.Common.{arith, pos, subst, sym, length}
use Rattle.int_model.specs.Programs.{Terms, AreTerms}
use Rattle.scenario_changes.proofs.SumLemmas.{term_at}
use Rattle.dive.proofs.moves.Moves.new.Goals as goal

pub bounds-x-column : goal.bounds-x-column
bounds-x-column c =
    let row : AreTerms 0 (length c.args.model.now.columns) c.as_slice-column-items.result.now = subst (λ (ts : Terms). AreTerms 0 (length c.args.model.now.columns) ts) (sym c.as_slice-column-items.ensures) c.row.ensures.limits.terms in
    let t = term_at 0 _ c.as_slice-column-items.result.now c.loop-column.column-index (0, pos 0) row c.loop-column-test.true in
    omega (arith, t.column, c.requires)
