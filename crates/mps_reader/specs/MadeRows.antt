-- What the rows of a text become at its end.
use Rattle.std.specs.Prelude.{ℕ, ℤ, pos, neg_ℤ, List, Option, Some, None, unwrap_or}
use Rattle.mps_reader.specs.declared.row_draft.RowRole.{RowRole}
use Rattle.mps_reader.specs.declared.row_draft.RowRole.TheVariants.{Objective, Dropped, Kept}
use Rattle.mps_reader.specs.declared.row_draft.RowDraft.{RowDraft}
use Rattle.int_model.specs.declared.model.Row.{Row}

abbrev pub row_with : RowRole → RowDraft → Option Row
row_with Objective row = None
row_with Dropped row = None
row_with (Kept sense) row = Some (record { name = row.name; sense = sense; rhs = unwrap_or row.rhs (pos 0); range = row.range; terms = row.terms.items })

-- the row of the model that a row with a sense becomes
abbrev pub row_made : RowDraft → Option Row
row_made row = row_with row.role row

abbrev pub objective_with : {X : Type 0} → RowRole → X → Option X
objective_with Objective x = Some x
objective_with Dropped x = None
objective_with (Kept sense) x = None

-- the constant and the costs that the objective gives
abbrev pub constant_made : RowDraft → Option ℤ
constant_made row = objective_with row.role (neg_ℤ (unwrap_or row.rhs (pos 0)))

abbrev pub costs_made : RowDraft → Option (List (ℕ × ℤ))
costs_made row = objective_with row.role row.terms.items
