use Rattle.std.proofs.Common.{◌∙◌}
use Rattle.mps_reader.proofs.FaultLemmas.{on_ok, if_err}
use Rattle.mps_reader.proofs.FieldLists.{fields2, fields3, fields4, fields5}
use Rattle.mps_reader.proofs.SideLemmas.{two_fields, three_fields, four_fields, five_fields, line_taken, line_refused, unnamed_set}
use Rattle.mps_reader.proofs.sides.Side.take_line.Goals as goal

pub returns-in-len2-clause-ok : goal.returns-in-len2-clause-ok
returns-in-len2-clause-ok c = on_ok c.take_pair.result _ _ (λ takes. λ ls l d r.
    line_taken c.args.self _ _ _ _ ls l _ _ _ d (two_fields c.args.self ls l _ _ (d.fields ∙ fields2 c.args.fields.now _ _ c.in-len2.len_at_least c.in-len2.len_below)) r.roles r.numbers (unnamed_set _ _ r.sets) takes) c.take_pair.ensures.ok

pub returns-in_ok-accept-in-len3-clause-ok : goal.returns-in_ok-accept-in-len3-clause-ok
returns-in_ok-accept-in-len3-clause-ok c = on_ok c.take_pair-in-len3.result _ _ (λ takes. λ ls l d r.
    let set = c.in_ok-accept-in-len3.ensures.ok _ r.sets in
    line_taken c.args.self _ _ _ _ ls l _ _ _ d (three_fields c.args.self ls l _ _ _ (d.fields ∙ fields3 c.args.fields.now _ _ _ c.in-len3.len_at_least c.in-len3.len_below) set.0) r.roles r.numbers set.1 takes) c.take_pair-in-len3.ensures.ok

pub returns-in_ok-accept-in-len3-clause-err : goal.returns-in_ok-accept-in-len3-clause-err
returns-in_ok-accept-in-len3-clause-err c = if_err c.take_pair-in-len3.result _ _ (λ kind refuses. λ ls l d r.
    let set = c.in_ok-accept-in-len3.ensures.ok _ r.sets in
    line_refused c.args.self c.args.set.now.first _ _ c.args.rows.now.table.items.items ls l _ _ _ d (three_fields c.args.self ls l _ _ _ (d.fields ∙ fields3 c.args.fields.now _ _ _ c.in-len3.len_at_least c.in-len3.len_below) set.0) r.roles r.numbers kind refuses) c.take_pair-in-len3.ensures.err

pub returns-in-len4-clause-ok : goal.returns-in-len4-clause-ok
returns-in-len4-clause-ok c = on_ok c.take_two.result _ _ (λ takes. λ ls l d r.
    line_taken c.args.self _ _ _ _ ls l _ _ _ d (four_fields c.args.self ls l _ _ _ _ (d.fields ∙ fields4 c.args.fields.now _ _ _ _ c.in-len4.len_at_least c.in-len4.len_below)) r.roles r.numbers (unnamed_set _ _ r.sets) takes) c.take_two.ensures.ok

pub returns-in-len4-clause-err : goal.returns-in-len4-clause-err
returns-in-len4-clause-err c = if_err c.take_two.result _ _ (λ kind refuses. λ ls l d r.
    line_refused c.args.self c.args.set.now.first _ _ c.args.rows.now.table.items.items ls l _ _ _ d (four_fields c.args.self ls l _ _ _ _ (d.fields ∙ fields4 c.args.fields.now _ _ _ _ c.in-len4.len_at_least c.in-len4.len_below)) r.roles r.numbers kind refuses) c.take_two.ensures.err

pub returns-in_ok-accept-in-len5-clause-ok : goal.returns-in_ok-accept-in-len5-clause-ok
returns-in_ok-accept-in-len5-clause-ok c = on_ok c.take_two-in-len5.result _ _ (λ takes. λ ls l d r.
    let set = c.in_ok-accept-in-len5.ensures.ok _ r.sets in
    line_taken c.args.self _ _ _ _ ls l _ _ _ d (five_fields c.args.self ls l _ _ _ _ _ (d.fields ∙ fields5 c.args.fields.now _ _ _ _ _ c.in-len5.len_at_least c.in-len5.len_below) set.0) r.roles r.numbers set.1 takes) c.take_two-in-len5.ensures.ok

pub returns-in_ok-accept-in-len5-clause-err : goal.returns-in_ok-accept-in-len5-clause-err
returns-in_ok-accept-in-len5-clause-err c = if_err c.take_two-in-len5.result _ _ (λ kind refuses. λ ls l d r.
    let set = c.in_ok-accept-in-len5.ensures.ok _ r.sets in
    line_refused c.args.self c.args.set.now.first _ _ c.args.rows.now.table.items.items ls l _ _ _ d (five_fields c.args.self ls l _ _ _ _ _ (d.fields ∙ fields5 c.args.fields.now _ _ _ _ _ c.in-len5.len_at_least c.in-len5.len_below) set.0) r.roles r.numbers kind refuses) c.take_two-in-len5.ensures.err
