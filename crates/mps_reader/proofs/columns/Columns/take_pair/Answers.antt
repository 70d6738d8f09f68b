use Rattle.std.proofs.Common.{◌≡◌, ◌∙◌, sym, ap, subst, None, refl, [], ◌∷◌, ◌++◌, ◌≤◌, unsigned_abs, FitsSigned, w64, arith}
use Rattle.std.specs.Prelude.{is_some}
use Rattle.mps_reader.specs.declared.fault.Fault.TheVariants.{Refused}
use Rattle.mps_reader.specs.declared.MpsKind.{MpsKind}
use Rattle.mps_reader.specs.declared.MpsKind.TheVariants.{UnknownRow}
use Rattle.std.proofs.lemmas.Bool.{and_right}
use Rattle.mps_reader.specs.MpsRules.{is_nonzero}
use Rattle.mps_reader.specs.MpsModels.{number_or_zero}
use Rattle.mps_reader.specs.ColumnNumbers.{makes_term}
use Rattle.mps_reader.specs.ColumnSteps.{RefusesTerms}
use Rattle.mps_reader.proofs.FaultLemmas.{refused_as, kind_of_none}
use Rattle.mps_reader.proofs.TermLemmas.{term_taken, term_unread, term_refused, term_unknown, unread_of, value_of, count_same, count_with, listed_more, listed_same, is_number, is_no_number, some_limit}
use Rattle.mps_reader.proofs.columns.Columns.take_pair.Goals as goal
use Rattle.std.proofs.lemmas.Int.{ints, to_z-of_z}

pub returns-in_err-index-clause-err : goal.returns-in_err-index-clause-err
returns-in_err-index-clause-err c =
    let none : c.find.result ≡ None = c.in_err-index.ensures.ok_part in
    refused_as c.from_residual.result c.in_err-index.field-0.0 _ c.from_residual.ensures.1
    (subst (λ (kind : MpsKind). RefusesTerms c.args.rows.now.table.names.keys c.args.column c.args.rows.now.table.items.items c.args.self.now.entries (c.args.row.now ∷ c.args.number.now ∷ []) (Refused kind)) (sym (kind_of_none c.find.result c.ok_or.result c.in_err-index.field-0.0 UnknownRow none c.in_err-index.was c.ok_or.ensures.value))
    (term_unknown c.args.rows.now.table.names.keys c.args.rows.now.table.items.items c.args.row.now c.args.number.now c.args.column c.args.self.now.entries (sym c.find.ensures.found ∙ ap is_some none)))

pub returns-in_err-value-clause-err : goal.returns-in_err-value-clause-err
returns-in_err-value-clause-err c =
    refused_as c.from_residual-in_err-value.result c.in_err-value.field-0.0 _ c.from_residual-in_err-value.ensures.1
    (term_refused c.args.rows.now.table.names.keys c.args.rows.now.table.items.items c.in_ok-index.index c.index_mut-draft.result.now c.args.row.now c.args.number.now c.args.column c.args.self.now.entries (sym c.find.ensures.place ∙ c.in_ok-index.ensures.ok_part) c.index_mut-draft.ensures.value c.in_err-value.field-0.0 c.in_err-value.ensures.err)

pub returns-in_default-clause-ok : goal.returns-in_default-clause-ok
returns-in_default-clause-ok c =
    let v = c.in_ok-value.ensures.ok in
    term_unread c.args.rows.now.table.names.keys c.args.rows.now.table.items.items c.in_ok-index.index c.index_mut-draft.result.now c.args.row.now c.args.number.now c.args.column c.args.self.now.entries (sym c.find.ensures.place ∙ c.in_ok-index.ensures.ok_part) c.index_mut-draft.ensures.value v.0 (unread_of _ (number_or_zero c.args.number.now) c.in_ok-value.field-0 v.1 c.in_default.is)

pub returns-in_ok-push-clause-ok : goal.returns-in_ok-push-clause-ok
returns-in_ok-push-clause-ok c =
    let v = c.in_ok-value.ensures.ok in
    let same = value_of _ c.in-Some.value (number_or_zero c.args.number.now) c.in_ok-value.field-0 v.1 c.in-Some.is in
    let limit : unsigned_abs c.in-Some.value ≤ 1000000000 = some_limit c.in_ok-value.field-0 c.in-Some.value c.in-Some.is c.in_ok-value.ensures.limit in
    let fits : FitsSigned w64 c.in-Some.value = omega (arith, ints, limit) in
    let nonzero = is_number c.args.number.now c.in-Some.value same c.if-value-ne0.true in
    term_taken c.args.rows.now.table.names.keys c.args.rows.now.table.items.items c.in_ok-index.index c.index_mut-draft.result.now c.args.row.now c.args.number.now c.args.column c.args.self.now.entries (sym c.find.ensures.place ∙ c.in_ok-index.ensures.ok_part) c.index_mut-draft.ensures.value _ _ v.0 refl refl
    (count_with c.index_mut-draft.result.now.role (is_nonzero c.args.number.now) c.args.self.now.entries _ nonzero c.entries_with-self.ensures)
    (listed_more (is_nonzero c.args.number.now) c.index_mut-draft.result.now.terms.items _ c.args.column c.in-Some.value (number_or_zero c.args.number.now) nonzero same (c.in_ok-push.ensures.items ∙ ap (λ z. c.index_mut-draft.result.now.terms.items ++ (c.args.column, z) ∷ []) (to_z-of_z w64 c.in-Some.value fits)))

pub returns-else-value-ne0-clause-ok : goal.returns-else-value-ne0-clause-ok
returns-else-value-ne0-clause-ok c =
    let v = c.in_ok-value.ensures.ok in
    let same = value_of _ c.in-Some.value (number_or_zero c.args.number.now) c.in_ok-value.field-0 v.1 c.in-Some.is in
    let zero = is_no_number c.args.number.now c.in-Some.value (some_limit c.in_ok-value.field-0 c.in-Some.value c.in-Some.is c.in_ok-value.ensures.limit) same c.if-value-ne0.false in
    term_taken c.args.rows.now.table.names.keys c.args.rows.now.table.items.items c.in_ok-index.index c.index_mut-draft.result.now c.args.row.now c.args.number.now c.args.column c.args.self.now.entries (sym c.find.ensures.place ∙ c.in_ok-index.ensures.ok_part) c.index_mut-draft.ensures.value _ _ v.0 refl refl
    (count_same c.index_mut-draft.result.now.role (is_nonzero c.args.number.now) c.args.self.now.entries (and_right (makes_term c.index_mut-draft.result.now.role) (is_nonzero c.args.number.now) zero))
    (listed_same (is_nonzero c.args.number.now) c.index_mut-draft.result.now.terms.items c.args.column (number_or_zero c.args.number.now) zero)
