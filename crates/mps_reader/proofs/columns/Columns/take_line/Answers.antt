use Rattle.std.proofs.Common.{◌∙◌, ap}
use Rattle.std.specs.Option.{option_map}
use Rattle.mps_reader.proofs.FaultLemmas.{on_ok, if_err}
use Rattle.mps_reader.proofs.FieldLists.{fields3, fields5}
use Rattle.mps_reader.proofs.ColumnLemmas.{column_taken, column_refused, marker_moved, three_fine, five_fine}
use Rattle.mps_reader.proofs.columns.Columns.take_line.Goals as goal

pub returns-then-names_marker-clause-ok : goal.returns-then-names_marker-clause-ok
returns-then-names_marker-clause-ok c = λ ls l d r.
    let t = c.in_ok-take_marker.ensures.ok l d.fields in
    marker_moved c.args.rows.now.table.names.keys c.args.self.now.table.names.keys c.take_marker.new.self.table.names.keys c.args.rows.now.table.items.items c.args.self.now.table.items.items c.take_marker.new.self.table.items.items _ (option_map (λ k. k.now) c.take_marker.new.self.current) c.args.self.now.in_integer_part c.take_marker.new.self.in_integer_part c.args.self.now.entries c.take_marker.new.self.entries ls l _ d (c.names_marker.ensures l d.fields ∙ c.if-names_marker.true) r t.0 t.1 c.take_marker.ensures.entries
    (ap (λ t. t.names.keys) c.take_marker.ensures.table) (ap (λ t. t.items.items) c.take_marker.ensures.table) (ap (option_map (λ k. k.now)) c.in_ok-take_marker.ensures.current)

pub returns-in_ok-column-in-len3-clause-ok : goal.returns-in_ok-column-in-len3-clause-ok
returns-in_ok-column-in-len3-clause-ok c =
    on_ok c.take_pair.result _ _ (λ takes. λ ls l d r.
    let f = d.fields ∙ fields3 c.args.fields.now _ _ _ c.in-len3.len_at_least c.in-len3.len_below in
    let e = c.in_ok-column-in-len3.ensures in
    column_taken c.args.rows.now.table.names.keys c.args.self.now.table.names.keys c.column_named.new.self.table.names.keys c.args.rows.now.table.items.items c.args.self.now.table.items.items c.column_named.new.self.table.items.items (option_map (λ k. k.now) c.args.self.now.current) (option_map (λ k. k.now) c.column_named.new.self.current) c.args.self.now.in_integer_part c.column_named.new.self.in_integer_part c.args.self.now.entries c.column_named.new.self.entries c.in_ok-column-in-len3.column ls l _ _
    (record { header = d.header; section = d.section; fields = f }) (c.names_marker.ensures l d.fields ∙ c.if-names_marker.false) (three_fine l _ _ _ f) r e.good e.ready e.added c.column_named.ensures.entries e.size
    c.take_pair.new.self.table.names.keys c.take_pair.new.rows.table.items.items c.take_pair.new.self.table.items.items (option_map (λ k. k.now) c.take_pair.new.self.current) c.take_pair.new.self.in_integer_part c.take_pair.new.self.entries
    (ap (λ t. t.keys) c.take_pair.ensures.called) (ap (option_map (λ k. k.now)) c.take_pair.ensures.current) c.take_pair.ensures.part c.take_pair.ensures.columns takes) c.take_pair.ensures.ok

pub returns-in_ok-column-in-len3-clause-err : goal.returns-in_ok-column-in-len3-clause-err
returns-in_ok-column-in-len3-clause-err c =
    if_err c.take_pair.result _ _ (λ fault refuses. λ ls l d r.
    let f = d.fields ∙ fields3 c.args.fields.now _ _ _ c.in-len3.len_at_least c.in-len3.len_below in
    let e = c.in_ok-column-in-len3.ensures in
    column_refused c.args.rows.now.table.names.keys c.args.self.now.table.names.keys c.column_named.new.self.table.names.keys c.args.rows.now.table.items.items c.args.self.now.table.items.items c.column_named.new.self.table.items.items (option_map (λ k. k.now) c.args.self.now.current) (option_map (λ k. k.now) c.column_named.new.self.current) c.args.self.now.in_integer_part c.column_named.new.self.in_integer_part c.args.self.now.entries c.column_named.new.self.entries c.in_ok-column-in-len3.column ls l _ _
    (record { header = d.header; section = d.section; fields = f }) (c.names_marker.ensures l d.fields ∙ c.if-names_marker.false) (three_fine l _ _ _ f) r e.good e.ready e.added c.column_named.ensures.entries e.size fault refuses) c.take_pair.ensures.err

pub returns-in_ok-column-in-len5-clause-ok : goal.returns-in_ok-column-in-len5-clause-ok
returns-in_ok-column-in-len5-clause-ok c =
    on_ok c.take_two.result _ _ (λ takes. λ ls l d r.
    let f = d.fields ∙ fields5 c.args.fields.now _ _ _ _ _ c.in-len5.len_at_least c.in-len5.len_below in
    let e = c.in_ok-column-in-len5.ensures in
    column_taken c.args.rows.now.table.names.keys c.args.self.now.table.names.keys c.column_named-in-len5.new.self.table.names.keys c.args.rows.now.table.items.items c.args.self.now.table.items.items c.column_named-in-len5.new.self.table.items.items (option_map (λ k. k.now) c.args.self.now.current) (option_map (λ k. k.now) c.column_named-in-len5.new.self.current) c.args.self.now.in_integer_part c.column_named-in-len5.new.self.in_integer_part c.args.self.now.entries c.column_named-in-len5.new.self.entries c.in_ok-column-in-len5.column ls l _ _
    (record { header = d.header; section = d.section; fields = f }) (c.names_marker.ensures l d.fields ∙ c.if-names_marker.false) (five_fine l _ _ _ _ _ f) r e.good e.ready e.added c.column_named-in-len5.ensures.entries e.size
    c.take_two.new.self.table.names.keys c.take_two.new.rows.table.items.items c.take_two.new.self.table.items.items (option_map (λ k. k.now) c.take_two.new.self.current) c.take_two.new.self.in_integer_part c.take_two.new.self.entries
    (ap (λ t. t.keys) c.take_two.ensures.called) (ap (option_map (λ k. k.now)) c.take_two.ensures.current) c.take_two.ensures.part c.take_two.ensures.columns takes) c.take_two.ensures.ok

pub returns-in_ok-column-in-len5-clause-err : goal.returns-in_ok-column-in-len5-clause-err
returns-in_ok-column-in-len5-clause-err c =
    if_err c.take_two.result _ _ (λ fault refuses. λ ls l d r.
    let f = d.fields ∙ fields5 c.args.fields.now _ _ _ _ _ c.in-len5.len_at_least c.in-len5.len_below in
    let e = c.in_ok-column-in-len5.ensures in
    column_refused c.args.rows.now.table.names.keys c.args.self.now.table.names.keys c.column_named-in-len5.new.self.table.names.keys c.args.rows.now.table.items.items c.args.self.now.table.items.items c.column_named-in-len5.new.self.table.items.items (option_map (λ k. k.now) c.args.self.now.current) (option_map (λ k. k.now) c.column_named-in-len5.new.self.current) c.args.self.now.in_integer_part c.column_named-in-len5.new.self.in_integer_part c.args.self.now.entries c.column_named-in-len5.new.self.entries c.in_ok-column-in-len5.column ls l _ _
    (record { header = d.header; section = d.section; fields = f }) (c.names_marker.ensures l d.fields ∙ c.if-names_marker.false) (five_fine l _ _ _ _ _ f) r e.good e.ready e.added c.column_named-in-len5.ensures.entries e.size fault refuses) c.take_two.ensures.err
