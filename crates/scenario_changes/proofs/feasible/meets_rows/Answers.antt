use Rattle.std.proofs.Common.{rules, refl, ap, ◌≡◌, ◌∙◌, ◌<◌, length, FitsSigned, w64}
use Rattle.std.proofs.lemmas.Int.{to_z-of_z}
use Rattle.int_model.specs.Programs.{row_sum, MeetsRows, Terms}
use Rattle.scenario_changes.proofs.SumLemmas.{FirstRow, meets-first, meets-step, terms_of}
use Rattle.scenario_changes.proofs.feasible.meets_rows.Goals as goal

pub returns-then-not-is_between : goal.returns-then-not-is_between
returns-then-not-is_between c =
    let row : c.loop-i.i < length c.args.model.now.rows = search rules in
    let side : c.loop-i.i < length c.args.ends.now = search rules in
    let fits : FitsSigned w64 c.row_sum-sum.result = search rules in
    let first : FirstRow c.args.model.now.rows c.args.ends.now c.loop-i.i c.row.result.now = record { in_rows = row; in_ends = side; read = c.row.ensures.value } in
    let sum : c.row_sum-sum.result ≡ row_sum c.row.result.now.terms c.args.x.now = c.row_sum-sum.ensures.value ∙ ap (λ (ts : Terms). row_sum ts c.args.x.now) c.as_slice.ensures in
    (λ e. absurd (cc), λ h. c.if-not-is_between.ensures.1 (meets-first c.args.model.now.rows c.args.ends.now c.args.x.now c.loop-i.i c.row.result.now _ _ first (to_z-of_z w64 c.row_sum-sum.result fits ∙ sum) (c.loop-i.invariant.0 h)).0)

pub loop-i-preserved : goal.loop-i-preserved
loop-i-preserved c =
    let row : c.loop-i.i < length c.args.model.now.rows = search rules in
    let side : c.loop-i.i < length c.args.ends.now = search rules in
    let fits : FitsSigned w64 c.row_sum-sum.result = search rules in
    let first : FirstRow c.args.model.now.rows c.args.ends.now c.loop-i.i c.row.result.now = record { in_rows = row; in_ends = side; read = c.row.ensures.value } in
    let sum : c.row_sum-sum.result ≡ row_sum c.row.result.now.terms c.args.x.now = c.row_sum-sum.ensures.value ∙ ap (λ (ts : Terms). row_sum ts c.args.x.now) c.as_slice.ensures in
    meets-step (MeetsRows (terms_of c.args.model.now.rows) c.args.ends.now c.args.x.now) c.args.model.now.rows c.args.ends.now c.args.x.now c.loop-i.i c.row.result.now _ _ first (to_z-of_z w64 c.row_sum-sum.result fits ∙ sum) (c.if-not-is_between.ensures.0 refl) c.loop-i.invariant
