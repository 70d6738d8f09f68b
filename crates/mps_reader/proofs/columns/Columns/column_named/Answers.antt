use Rattle.std.proofs.Common.{◌≡◌, sym, subst, arith, length, Bool, ◌++◌, ◌∷◌, []}
use Rattle.std.specs.Option.{option_map}
use Rattle.std.proofs.lemmas.List.{length-map}
use Rattle.mps_reader.specs.Tables.{texts_of}
use Rattle.mps_reader.specs.ColumnStates.{ColumnsReady}
use Rattle.mps_reader.proofs.FaultLemmas.{on_ok_two, if_err}
use Rattle.mps_reader.proofs.ColumnLemmas.{ready_continued, ready_begun, name_kind_is, none_continued, fault_as}
use Rattle.mps_reader.proofs.columns.Columns.column_named.Goals as goal
use Rattle.mps_reader.proofs.columns.Columns.column_named.Goals.{else-continues-via-then-continues+else-count-gt0, else-continues-via-else-continues}

pub returns-then-count-gt0-clause-ready : goal.returns-then-count-gt0-clause-ready
returns-then-count-gt0-clause-ready c = λ ls l is r. ready_continued _ _ _ ls l c.args.field.now is (sym c.if-continues.ensures) r

pub returns-clause-ready : goal.returns-clause-ready
returns-clause-ready c =
    let size : length (texts_of c.args.self.now.table.names.keys) ≡ length c.args.self.now.table.items.items = omega (arith, length-map c.args.self.now.table.names.keys (λ k. k.now), c.args.self.now.table.same_length, c.args.self.now.table.items.ok.0) in
    on_ok_two c.begin_column.result _ _ _ (λ pushed now. λ ls l is r.
    subst (λ (part : Bool). ColumnsReady (texts_of c.begin_column.new.self.table.names.keys) (option_map (λ k. k.now) c.begin_column.new.self.current) part (ls ++ l ∷ [])) (sym c.begin_column.ensures.part)
    (ready_begun (texts_of c.args.self.now.table.names.keys) _ _ _ c.args.self.now.in_integer_part ls l c.args.field.now is
    (elim c.else-continues.branch [
      | else-continues-via-then-continues+else-count-gt0 w ↦ none_continued (texts_of c.args.self.now.table.names.keys) _ c.args.self.now.in_integer_part ls c.args.field.now r (omega (arith, size, c.args.self.now.table.items.ok.0, c.len-count.ensures, w.if-count-gt0.false))
      | else-continues-via-else-continues w ↦ sym w.if-continues.ensures
    ]) r pushed.called pushed.absent now)) c.begin_column.ensures.pushed c.begin_column.ensures.current

pub returns-clause-err : goal.returns-clause-err
returns-clause-err c =
    let size : length (texts_of c.args.self.now.table.names.keys) ≡ length c.args.self.now.table.items.items = omega (arith, length-map c.args.self.now.table.names.keys (λ k. k.now), c.args.self.now.table.same_length, c.args.self.now.table.items.ok.0) in
    if_err c.begin_column.result _ _ (λ fault bad. λ ls l is r. fault_as fault _ _
    (name_kind_is (texts_of c.args.self.now.table.names.keys) _ c.args.self.now.in_integer_part (length c.args.self.now.table.items.items) ls l c.args.field.now is
    (elim c.else-continues.branch [
      | else-continues-via-then-continues+else-count-gt0 w ↦ none_continued (texts_of c.args.self.now.table.names.keys) _ c.args.self.now.in_integer_part ls c.args.field.now r (omega (arith, size, c.args.self.now.table.items.ok.0, c.len-count.ensures, w.if-count-gt0.false))
      | else-continues-via-else-continues w ↦ sym w.if-continues.ensures
    ]) r size) bad) c.begin_column.ensures.err
