use Rattle.std.proofs.Common.{◌≡◌, ◌≤◌, ◌-◌, vec_len}
use Rattle.std.specs.List.{All}
use Rattle.int_model.proofs.by_column.empty_columns.Given as goal

abbrev pub invariant-filling : goal.invariant-filling
invariant-filling l = record {
  length : vec_len l.table ≤ l.columns;
  empty : All (λ c. vec_len c ≡ 0) l.table.items;
}

abbrev pub decreases-filling : goal.decreases-filling
decreases-filling l = l.columns - vec_len l.table
