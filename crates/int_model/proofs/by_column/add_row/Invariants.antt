use Rattle.std.proofs.Common.{◌≡◌, ◌<◌, ◌++◌, ℕ, ℤ, get_or, take, vec_len, Vec}
use Rattle.std.specs.declared.alloc.Global.{Global}
use Rattle.int_model.specs.ByColumn.{column_part}
use Rattle.int_model.proofs.by_column.add_row.Given as goal

abbrev pub invariant-loop-column : goal.invariant-loop-column
invariant-loop-column l = record {
  length : vec_len l.table ≡ vec_len l.initial.table;
  terms : (j : ℕ) (d : Vec (ℕ × ℤ) Global) → j < vec_len l.table → (get_or l.table.items j d).items ≡ (get_or l.initial.table.items j d).items ++ column_part j l.i (take l.column-index l.terms);
}
