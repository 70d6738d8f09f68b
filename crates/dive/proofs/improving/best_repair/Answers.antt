use Rattle.std.proofs.Common.{arith, ap, pos, subst, sym, length}
use Rattle.int_model.specs.Models.{IntegerModel}
use Rattle.int_model.specs.Programs.{Terms, AreTerms}
use Rattle.scenario_changes.proofs.SumLemmas.{term_at}
use Rattle.dive.proofs.improving.best_repair.Goals as goal

pub bounds-costs-other : goal.bounds-costs-other
bounds-costs-other c =
    let row : AreTerms 0 (length c.model.result.now.columns) c.as_slice-other-items.result.now = subst (λ (ts : Terms). AreTerms 0 (length c.model.result.now.columns) ts) (sym c.as_slice-other-items.ensures) c.row.ensures.limits.terms in
    let t = term_at 0 _ c.as_slice-other-items.result.now c.loop-other.other-index (0, pos 0) row c.loop-other-test.true in
    let same = ap (λ (m : IntegerModel). length m.columns) c.model.ensures in
    omega (arith, t.column, same, c.costs-costs.ensures.count)

pub is_allowed-requires-clause-repair : goal.is_allowed-requires-clause-repair
is_allowed-requires-clause-repair c =
    let row : AreTerms 0 (length c.model.result.now.columns) c.as_slice-other-items.result.now = subst (λ (ts : Terms). AreTerms 0 (length c.model.result.now.columns) ts) (sym c.as_slice-other-items.ensures) c.row.ensures.limits.terms in
    let t = term_at 0 _ c.as_slice-other-items.result.now c.loop-other.other-index (0, pos 0) row c.loop-other-test.true in
    let same = ap (λ (m : IntegerModel). length m.columns) c.model.ensures in
    omega (arith, t.column, same)

pub loop-other-preserved : goal.loop-other-preserved
loop-other-preserved c =
    let row : AreTerms 0 (length c.model.result.now.columns) c.as_slice-other-items.result.now = subst (λ (ts : Terms). AreTerms 0 (length c.model.result.now.columns) ts) (sym c.as_slice-other-items.ensures) c.row.ensures.limits.terms in
    let t = term_at 0 _ c.as_slice-other-items.result.now c.loop-other.other-index (0, pos 0) row c.loop-other-test.true in
    let same = ap (λ (m : IntegerModel). length m.columns) c.model.ensures in
    omega (arith, t.column, same)
