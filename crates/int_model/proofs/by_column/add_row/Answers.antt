use Rattle.std.proofs.Common.{rules, arith, vec_len, ◌≡◌, ◌++◌, ◌<◌, ◌∙◌, ap, ℕ, ℤ, pos, Vec, [], ◌∷◌, length, slice_index_or, FitsSigned, w64}
use Rattle.std.specs.declared.alloc.Global.{Global}
use Rattle.std.proofs.lemmas.Int.{to_z-of_z}
use Rattle.std.proofs.lemmas.List.{get_or_default}
use Rattle.int_model.proofs.ByColumnLemmas.{term_put}
use Rattle.int_model.proofs.by_column.add_row.Goals as goal

pub loop-column-preserved : goal.loop-column-preserved
loop-column-preserved c =
    let before = c.args.table.now.items in
    let table = c.loop-column.table.items in
    let terms = c.args.terms.now in
    let k = c.loop-column.column-index in
    let t : ℕ × ℤ = slice_index_or terms k (0, pos 0) in
    let old = c.index_mut.result.now in
    let fits : FitsSigned w64 t.1 = search rules in
    let same_length : length before ≡ length table = search rules in
    let count : length table ≡ vec_len c.loop-column.table = search rules in
    let within : t.0 < length table = omega (arith, same_length, c.requires k (0, pos 0) c.loop-column-test.true) in
    let pushed = simp to_z-of_z at c.in_ok-push.ensures.items in
    let same : old.items ≡ (slice_index_or table t.0 old).items = ap (λ (r : Vec (ℕ × ℤ) Global). r.items) c.index_mut.ensures.value in
    record {
      length = c.loop-column.invariant.length;
      terms = λ j d h. term_put before table terms c.args.i k j t _ d old c.loop-column-test.true (get_or_default terms k (0, pos 0) t c.loop-column-test.true) within same_length (λ i f q. c.loop-column.invariant.terms i f (rw (← count) q)) (pushed ∙ ap (λ l. l ++ (c.args.i, t.1) ∷ []) same) (rw count h);
    }
