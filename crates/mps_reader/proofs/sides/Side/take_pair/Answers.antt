use Rattle.std.proofs.Common.{◌≡◌, ◌∙◌, sym, subst, ap, None, [], ◌∷◌}
use Rattle.std.specs.Prelude.{is_some}
use Rattle.mps_reader.specs.RowStates.{entry_with}
use Rattle.mps_reader.specs.SideSteps.{RefusesPairs}
use Rattle.mps_reader.specs.declared.MpsKind.{MpsKind}
use Rattle.mps_reader.specs.declared.MpsKind.TheVariants.{UnknownRow}
use Rattle.mps_reader.proofs.FaultLemmas.{on_ok_two, if_err, kind_as, kind_of_none}
use Rattle.mps_reader.proofs.SideLemmas.{pair_taken, pair_refused, pair_unknown}
use Rattle.mps_reader.proofs.sides.Side.take_pair.Goals as goal

pub returns-in_err-index-clause-err : goal.returns-in_err-index-clause-err
returns-in_err-index-clause-err c =
    let none : c.find.result ≡ None = c.in_err-index.ensures.ok_part in
    kind_as c.from_residual.result c.in_err-index.field-0.0 _ (c.from_residual.ensures.1)
    (subst (λ (kind : MpsKind). RefusesPairs c.args.self c.args.rows.now.table.names.keys c.args.rows.now.table.items.items (entry_with [] c.args.row.now c.args.number.now ∷ []) kind) (sym (kind_of_none c.find.result c.ok_or.result c.in_err-index.field-0.0 UnknownRow none c.in_err-index.was c.ok_or.ensures.value))
    (pair_unknown c.args.self _ c.args.rows.now.table.items.items c.args.row.now c.args.number.now (sym c.find.ensures.found ∙ ap is_some none)))

pub returns-clause-ok : goal.returns-clause-ok
returns-clause-ok c =
    on_ok_two c.take_number.result _ _ _ (λ kind number. pair_taken c.args.self _ c.args.rows.now.table.items.items c.in_ok-index.index c.index_mut.result.now c.take_number.new.draft c.args.row.now c.args.number.now (sym c.find.ensures.place ∙ c.in_ok-index.ensures.ok_part) c.index_mut.ensures.value c.take_number.ensures.rest kind number) c.take_number.ensures.kind c.take_number.ensures.number

pub returns-clause-err : goal.returns-clause-err
returns-clause-err c = if_err c.take_number.result _ _ (λ kind bad. pair_refused c.args.self _ c.args.rows.now.table.items.items c.in_ok-index.index c.index_mut.result.now c.args.row.now c.args.number.now kind (sym c.find.ensures.place ∙ c.in_ok-index.ensures.ok_part) c.index_mut.ensures.value bad) c.take_number.ensures.err
