use Rattle.mps_reader.specs.EndedColumns.{part_of}
use Rattle.mps_reader.proofs.ModelLemmas.{model_is, costs_here}
use Rattle.std.proofs.Common.{map, ◌∙◌, ap, arith, w64, Ok, Err, subst, sym, Option}
use Rattle.std.proofs.lemmas.Int.{ints, to_z-of_z}
use Rattle.mps_reader.proofs.EndLemmas.{all_columns, end_is, ended_as, never_ended}
use Rattle.mps_reader.proofs.draft.Draft.into_model.Goals as goal
use Rattle.mps_reader.proofs.RefusalLemmas.{never_refused, only_memory}
use Rattle.mps_reader.proofs.FaultLemmas.{fault_itself}
use Rattle.mps_reader.specs.Faults.{IsFault}
use Rattle.mps_reader.specs.MpsModels.{end_kind}
use Rattle.mps_reader.specs.declared.MpsKind.{MpsKind}

pub returns-in_err-columns-clause-ended : goal.returns-in_err-columns-clause-ended
returns-in_err-columns-clause-ended c = λ ls kind a called e.
    let same = ap (λ v. v.items) c.into_items.ensures.items in
    ended_as c.from_residual-in_err-columns.result c.in_err-columns.field-0.0 kind _ c.from_residual-in_err-columns.ensures.1
    (c.in_err-columns.ensures.err ls (all_columns _ c.args.self.columns.table.items.items c.into_items.result.items ls same a))
    (end_is _ c.args.self.columns.table.items.items c.into_items.result.items ls same called a ∙ e)

pub returns-in-Ok-clause-ended : goal.returns-in-Ok-clause-ended
returns-in-Ok-clause-ended c = λ ls kind a called e.
    let same = ap (λ v. v.items) c.into_items.ensures.items in
    never_ended (Ok c.in-Ok.model) kind _ _ (c.in_ok-columns.ensures.ok ls (all_columns _ c.args.self.columns.table.items.items c.into_items.result.items ls same a))
    (end_is _ c.args.self.columns.table.items.items c.into_items.result.items ls same called a) e

pub returns-clause-ended : goal.returns-clause-ended
returns-clause-ended c = λ ls kind a called e.
    let same = ap (λ v. v.items) c.into_items.ensures.items in
    never_ended (Err c.fault_of.result) kind _ _ (c.in_ok-columns.ensures.ok ls (all_columns _ c.args.self.columns.table.items.items c.into_items.result.items ls same a))
    (end_is _ c.args.self.columns.table.items.items c.into_items.result.items ls same called a) e

pub returns-in-Ok-clause-ok : goal.returns-in-Ok-clause-ok
returns-in-Ok-clause-ok c = λ ls h.
    let same = ap (λ v. v.items) c.into_items.ensures.items in
    let r = c.in_ok-constant.ensures in
    let costs = costs_here c.args.self ls c.into_items.result.items c.deref.result.now h same (c.deref.ensures.value ∙ r.costs) in
    let parts = c.in_ok-columns.ensures.parts ls (all_columns _ c.args.self.columns.table.items.items c.into_items.result.items ls same h.bounds) costs ∙ ap (map (part_of ls)) same in
    model_is c.args.self ls c.in_ok-columns.columns.items c.in_ok-constant.field-0.rows.items _ c.direction.result _ h c.in-Ok.ensures.ok.1 parts r.rows (to_z-of_z w64 c.in_ok-constant.field-0.constant (omega (arith, ints)) ∙ r.constant) (c.direction.ensures _ h.direction)

pub returns-in_err-columns-clause-err : goal.returns-in_err-columns-clause-err
returns-in_err-columns-clause-err c =
    fault_itself c.from_residual-in_err-columns.result c.in_err-columns.field-0.0 _ c.from_residual-in_err-columns.ensures.1
    (λ ls h.
    let same = ap (λ v. v.items) c.into_items.ensures.items in
    subst (λ (o : Option MpsKind). IsFault c.in_err-columns.field-0.0 o) (end_is _ c.args.self.columns.table.items.items c.into_items.result.items ls same h.called h.bounds)
    (c.in_err-columns.ensures.err ls (all_columns _ c.args.self.columns.table.items.items c.into_items.result.items ls same h.bounds)))

pub returns-clause-err : goal.returns-clause-err
returns-clause-err c = λ ls h.
    let same = ap (λ v. v.items) c.into_items.ensures.items in
    let r = c.in_ok-constant.ensures in
    let all = all_columns _ c.args.self.columns.table.items.items c.into_items.result.items ls same h.bounds in
    let costs = costs_here c.args.self ls c.into_items.result.items c.deref.result.now h same (c.deref.ensures.value ∙ r.costs) in
    let parts = c.in_ok-columns.ensures.parts ls all costs ∙ ap (map (part_of ls)) same in
    let good = ap (λ cs. end_kind ls (map (λ x. x.name) cs)) (sym same) ∙ c.in_ok-columns.ensures.ok ls all in
    only_memory c.in-Err.error c.fault_of.result _ _ c.in-Err.ensures.err
    (never_refused c.args.self ls c.in_ok-columns.columns.items c.in_ok-constant.field-0.rows.items _ h good parts r.rows (to_z-of_z w64 c.in_ok-constant.field-0.constant (omega (arith, ints)) ∙ r.constant))
    c.fault_of.ensures
