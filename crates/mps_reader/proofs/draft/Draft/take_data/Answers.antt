use Rattle.std.proofs.Common.{◌∙◌, ap, Some}
use Rattle.mps_reader.specs.declared.header.Section.TheVariants as section
use Rattle.mps_reader.proofs.FaultLemmas.{on_ok, on_ok_three}
use Rattle.mps_reader.proofs.DraftLemmas.{data_behind, last_behind, direction_agrees, rows_taken, columns_taken, rhs_taken, ranges_taken, bounds_taken, bounds_ready, direction_line, row_line, column_line, rhs_line, range_line, bound_line}
use Rattle.mps_reader.proofs.draft.Draft.take_data.Goals as goal

pub returns-in_ok-take_direction-in-Some-ObjSense-clause-ok : goal.returns-in_ok-take_direction-in-Some-ObjSense-clause-ok
returns-in_ok-take_direction-in-Some-ObjSense-clause-ok c = λ ls l is a.
    let d = data_behind c.args.self.now.headers ls l _ section.ObjSense c.last.result a.opening is c.last.ensures (c.in-Some-ObjSense.is ∙ ap (λ s. Some s) c.in-Some-ObjSense.field-0-is) in
    let t = c.in_ok-take_direction-in-Some-ObjSense.ensures.ok ls l a.opening d (last_behind c.args.self.now.headers ls section.ObjSense c.last.result a.opening c.last.ensures (c.in-Some-ObjSense.is ∙ ap (λ s. Some s) c.in-Some-ObjSense.field-0-is)) in
    (direction_line ls l _ d ∙ t.0, direction_agrees c.args.self.now c.take_direction.new.self ls l _ d t.1 a)

pub returns-in-Some-Rows-clause-ok : goal.returns-in-Some-Rows-clause-ok
returns-in-Some-Rows-clause-ok c =
    on_ok_three c.take_line.result _ _ _ _ (λ kind ready row. λ ls l is a.
    let d = data_behind c.args.self.now.headers ls l _ section.Rows c.last.result a.opening is c.last.ensures (c.in-Some-Rows.is ∙ ap (λ s. Some s) c.in-Some-Rows.field-0-is) in
    (row_line ls l _ d ∙ kind ls l d a.ready, rows_taken c.args.self.now c.take_line.new.self ls l _ d (ready ls l d a.ready) (row ls l d a.ready) a))
    c.take_line.ensures.kind c.take_line.ensures.ready c.take_line.ensures.row

pub returns-in-Some-Columns-clause-ok : goal.returns-in-Some-Columns-clause-ok
returns-in-Some-Columns-clause-ok c =
    on_ok c.take_line-in-Some-Columns.result _ _ (λ takes. λ ls l is a.
    let d = data_behind c.args.self.now.headers ls l _ section.Columns c.last.result a.opening is c.last.ensures (c.in-Some-Columns.is ∙ ap (λ s. Some s) c.in-Some-Columns.field-0-is) in
    let t = takes ls l d (record { roles = a.roles; heads = a.heads; numbers = a.numbers }) in
    (column_line ls l _ d ∙ t.good, columns_taken c.args.self.now c.take_line-in-Some-Columns.new.rows c.take_line-in-Some-Columns.new.self ls l _ d c.take_line-in-Some-Columns.ensures.names c.take_line-in-Some-Columns.ensures.kept c.take_line-in-Some-Columns.ensures.objective c.take_line-in-Some-Columns.ensures.sides t a))
    c.take_line-in-Some-Columns.ensures.ok

pub returns-in_ok-take_line-in-Some-Rhs-clause-ok : goal.returns-in_ok-take_line-in-Some-Rhs-clause-ok
returns-in_ok-take_line-in-Some-Rhs-clause-ok c = λ ls l is a.
    let d = data_behind c.args.self.now.headers ls l _ section.Rhs c.last.result a.opening is c.last.ensures (c.in-Some-Rhs.is ∙ ap (λ s. Some s) c.in-Some-Rhs.field-0-is) in
    let t = c.in_ok-take_line-in-Some-Rhs.ensures.ok ls l d (record { roles = a.roles; numbers = a.sides; sets = a.rhs_sets }) in
    (rhs_line ls l _ d ∙ t.good, rhs_taken c.args.self.now c.take_line-in-Some-Rhs.new.rows c.take_line-in-Some-Rhs.new.set ls l _ d c.take_line-in-Some-Rhs.ensures.names c.take_line-in-Some-Rhs.ensures.kept c.take_line-in-Some-Rhs.ensures.objective c.take_line-in-Some-Rhs.ensures.rest t a)

pub returns-in_ok-take_line-in-Some-Ranges-clause-ok : goal.returns-in_ok-take_line-in-Some-Ranges-clause-ok
returns-in_ok-take_line-in-Some-Ranges-clause-ok c = λ ls l is a.
    let d = data_behind c.args.self.now.headers ls l _ section.Ranges c.last.result a.opening is c.last.ensures (c.in-Some-Ranges.is ∙ ap (λ s. Some s) c.in-Some-Ranges.field-0-is) in
    let t = c.in_ok-take_line-in-Some-Ranges.ensures.ok ls l d (record { roles = a.roles; numbers = a.ranges; sets = a.range_sets }) in
    (range_line ls l _ d ∙ t.good, ranges_taken c.args.self.now c.take_line-in-Some-Ranges.new.rows c.take_line-in-Some-Ranges.new.set ls l _ d c.take_line-in-Some-Ranges.ensures.names c.take_line-in-Some-Ranges.ensures.kept c.take_line-in-Some-Ranges.ensures.objective c.take_line-in-Some-Ranges.ensures.rest t a)

pub returns-in_ok-take_bound-in-Some-Bounds-clause-ok : goal.returns-in_ok-take_bound-in-Some-Bounds-clause-ok
returns-in_ok-take_bound-in-Some-Bounds-clause-ok c = λ ls l is a.
    let d = data_behind c.args.self.now.headers ls l _ section.Bounds c.last.result a.opening is c.last.ensures (c.in-Some-Bounds.is ∙ ap (λ s. Some s) c.in-Some-Bounds.field-0-is) in
    let r = bounds_ready c.args.self.now ls a in
    let e = c.in_ok-take_bound-in-Some-Bounds.ensures in
    (bound_line ls l _ d ∙ e.kind ls l d r, bounds_taken c.args.self.now c.take_bound.new.columns c.take_bound.new.set ls l _ d c.take_bound.ensures.names c.take_bound.ensures.current c.take_bound.ensures.part c.take_bound.ensures.entries (e.kind ls l d r) (e.sets ls l d r) (λ k x at. e.bounds ls l k x d r at) a)
