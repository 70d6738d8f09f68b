use Rattle.std.proofs.Common.{ap}
use Rattle.mps_reader.proofs.FaultLemmas.{on_ok, if_err, fault_itself}
use Rattle.mps_reader.proofs.TermLemmas.{terms_taken, first_term_refused, second_term_refused}
use Rattle.mps_reader.proofs.columns.Columns.take_two.Goals as goal

pub returns-in_err-take_pair-clause-err : goal.returns-in_err-take_pair-clause-err
returns-in_err-take_pair-clause-err c =
    fault_itself c.from_residual.result c.in_err-take_pair.field-0.0 _ c.from_residual.ensures.1
    (first_term_refused c.args.rows.now.table.names.keys c.args.column c.args.rows.now.table.items.items c.args.self.now.entries c.args.row.now c.args.number.now c.args.second_row.now c.args.second_number.now c.in_err-take_pair.field-0.0 c.in_err-take_pair.ensures.err)

pub returns-clause-ok : goal.returns-clause-ok
returns-clause-ok c =
    on_ok c.take_pair-2.result _ _ (λ two. terms_taken c.args.rows.now.table.names.keys c.take_pair.new.rows.table.names.keys c.args.column c.args.rows.now.table.items.items c.take_pair.new.rows.table.items.items c.args.self.now.entries c.take_pair.new.self.entries c.args.row.now c.args.number.now c.args.second_row.now c.args.second_number.now (ap (λ t. t.keys) c.take_pair.ensures.names) c.take_pair-2.new.rows.table.items.items c.take_pair-2.new.self.entries c.in_ok-take_pair.ensures.ok c.take_pair.ensures.sides two) c.take_pair-2.ensures.ok

pub returns-clause-err : goal.returns-clause-err
returns-clause-err c =
    if_err c.take_pair-2.result _ _ (λ fault two. second_term_refused c.args.rows.now.table.names.keys c.take_pair.new.rows.table.names.keys c.args.column c.args.rows.now.table.items.items c.take_pair.new.rows.table.items.items c.args.self.now.entries c.take_pair.new.self.entries c.args.row.now c.args.number.now c.args.second_row.now c.args.second_number.now (ap (λ t. t.keys) c.take_pair.ensures.names) fault c.in_ok-take_pair.ensures.ok c.take_pair.ensures.sides two) c.take_pair-2.ensures.err
