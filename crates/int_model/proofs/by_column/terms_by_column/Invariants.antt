use Rattle.std.proofs.Common.{◌≡◌, ◌<◌, ℕ, ℤ, get_or, map, take, vec_len, Vec}
use Rattle.std.specs.declared.alloc.Global.{Global}
use Rattle.int_model.specs.ByColumn.{column_terms}
use Rattle.int_model.specs.declared.model.Row.{Row}
use Rattle.int_model.proofs.by_column.terms_by_column.Given as goal

abbrev pub invariant-loop-i : goal.invariant-loop-i
invariant-loop-i l = record {
  length : vec_len l.table ≡ l.columns;
  terms : (j : ℕ) (d : Vec (ℕ × ℤ) Global) → j < l.columns → (get_or l.table.items j d).items ≡ column_terms j 0 (take l.i (map (λ (i : Row). i.terms) l.rows));
}
