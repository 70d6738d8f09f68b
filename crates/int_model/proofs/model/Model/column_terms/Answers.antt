use Rattle.std.proofs.Common.{◌≡◌, ℕ, ℤ, List, Vec, ◌<◌, ◌∙◌, ap, sym, subst, map, length}
use Rattle.std.proofs.lemmas.List.{length-map}
use Rattle.std.specs.declared.alloc.Global.{Global}
use Rattle.int_model.specs.Models.{IntegerModel}
use Rattle.int_model.specs.Programs.{Terms, AreTerms}
use Rattle.int_model.specs.ByColumn.{column_terms}
use Rattle.int_model.specs.declared.model.Row.{Row}
use Rattle.int_model.proofs.ByColumnLaws.{column-terms}
use Rattle.int_model.proofs.ModelLaws.{rows-within}
use Rattle.int_model.proofs.model.Model.column_terms.Goals as goal

pub returns-clause-limits : goal.returns-clause-limits
returns-clause-limits c =
    let inside = c.self.inside in
    let rows : List Terms = map (λ (r : Row). r.terms) inside.rows.items in
    let n : ℕ = length inside.columns.items in
    let column : c.args.j < n = subst (λ (m : IntegerModel). c.args.j < length m.columns) (sym c.self.view_is) c.requires in
    let read : c.as_slice.result.now ≡ column_terms c.args.j 0 rows = c.as_slice.ensures.value ∙ ap (λ (v : Vec (ℕ × ℤ) Global). v.items) c.index.ensures ∙ c.self.invariant.by_column.terms c.args.j c.index.result.now column in
    let rising : AreTerms 0 (length rows) (column_terms c.args.j 0 rows) = column-terms c.args.j n rows (rows-within n inside.rows.items c.self.invariant.limits.rows) in
    rw (← c.self.view_is, read) (rw (length-map inside.rows.items (λ (r : Row). r.terms)) at rising)
