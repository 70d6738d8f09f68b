use Rattle.std.proofs.Common.{ap, []}
use Rattle.mps_reader.specs.RowStates.{entry_with}
use Rattle.mps_reader.proofs.FaultLemmas.{on_ok, if_err, kind_as}
use Rattle.mps_reader.proofs.SideLemmas.{two_taken, first_refused, second_refused}
use Rattle.mps_reader.proofs.sides.Side.take_two.Goals as goal

pub returns-in_err-take_pair-clause-err : goal.returns-in_err-take_pair-clause-err
returns-in_err-take_pair-clause-err c =
    kind_as c.from_residual.result c.in_err-take_pair.field-0.0 _ c.from_residual.ensures.1
    (first_refused c.args.self _ c.args.rows.now.table.items.items (entry_with [] c.args.row.now c.args.number.now) (entry_with [] c.args.second_row.now c.args.second_number.now) c.in_err-take_pair.field-0.0 c.in_err-take_pair.ensures.err)

pub returns-clause-ok : goal.returns-clause-ok
returns-clause-ok c =
    on_ok c.take_pair-2.result _ _ (λ two. two_taken c.args.self c.args.rows.now.table.names.keys c.take_pair.new.rows.table.names.keys c.args.rows.now.table.items.items c.take_pair.new.rows.table.items.items c.take_pair-2.new.rows.table.items.items (entry_with [] c.args.row.now c.args.number.now) (entry_with [] c.args.second_row.now c.args.second_number.now) (ap (λ t. t.keys) c.take_pair.ensures.names) c.in_ok-take_pair.ensures.ok c.take_pair.ensures.rest two) c.take_pair-2.ensures.ok

pub returns-clause-err : goal.returns-clause-err
returns-clause-err c =
    if_err c.take_pair-2.result _ _ (λ kind two. second_refused c.args.self c.args.rows.now.table.names.keys c.take_pair.new.rows.table.names.keys c.args.rows.now.table.items.items c.take_pair.new.rows.table.items.items c.take_pair.new.rows.table.items.items (entry_with [] c.args.row.now c.args.number.now) (entry_with [] c.args.second_row.now c.args.second_number.now) (ap (λ t. t.keys) c.take_pair.ensures.names) kind c.in_ok-take_pair.ensures.ok c.take_pair.ensures.rest two) c.take_pair-2.ensures.err
