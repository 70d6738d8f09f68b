use Rattle.std.proofs.Common.{◌≡◌, ◌<◌, ◌∙◌, ap, sym, subst, map, List, length, slice_index_or, vec_len}
use Rattle.std.proofs.lemmas.List.{get_or-map, length-map}
use Rattle.int_model.specs.Programs.{Terms}
use Rattle.int_model.specs.Models.{IsRow}
use Rattle.int_model.specs.declared.model.Row.{Row}
use Rattle.int_model.proofs.ByColumnLemmas.{row_put, terms_below}
use Rattle.int_model.proofs.by_column.terms_by_column.Goals as goal

pub add_row-requires : goal.add_row-requires
add_row-requires c =
    let row = c.index-rows-i.result in
    let good : IsRow c.args.columns row = subst (IsRow c.args.columns) (sym c.index-rows-i.is) (c.requires.rows c.loop-i.i row c.loop-i-test.true) in
    rw (c.as_slice.ensures, c.loop-i.invariant.length) (terms_below 0 c.args.columns row.terms good.terms)

pub loop-i-preserved : goal.loop-i-preserved
loop-i-preserved c =
    let row = c.index-rows-i.result in
    let i = c.loop-i.i in
    let all : List Terms = map (λ (r : Row). r.terms) c.args.rows.now in
    let same : vec_len c.loop-i.table ≡ c.args.columns = c.loop-i.invariant.length in
    let within : i < length all = rw length-map c.loop-i-test.true in
    let read : c.as_slice.result.now ≡ slice_index_or all i row.terms = c.as_slice.ensures ∙ ap (λ (r : Row). r.terms) c.index-rows-i.is ∙ sym (get_or-map (λ (r : Row). r.terms) c.args.rows.now i row row.terms c.loop-i-test.true) in
    record {
      length = c.in_ok-add_row.ensures.length ∙ same;
      terms = λ j d h.
          let inside : j < vec_len c.loop-i.table = rw same h in
          row_put all j i row.terms _ _ _ within read (c.loop-i.invariant.terms j d h) (c.in_ok-add_row.ensures.terms j d inside);
    }
