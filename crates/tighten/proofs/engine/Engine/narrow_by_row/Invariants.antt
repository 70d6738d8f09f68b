use Rattle.std.proofs.Common.{◌≡◌, ◌<◌, ℕ, pos, [], length, true}
use Rattle.std.specs.Prelude.{slice_index_or}
use Rattle.tighten.specs.Engines.{IsLoaded, Tightens, ColumnStays, box_in}
use Rattle.tighten.specs.Steps.{rows_of}
use Rattle.int_model.specs.RowSums.{least_sum, greatest_sum}
use Rattle.tighten.specs.Cuts.{IsSlack, no_ends}
use Rattle.tighten.proofs.engine.Engine.narrow_by_row.Given as goal

abbrev pub invariant-loop-column : goal.invariant-loop-column
invariant-loop-column l = record {
  loaded : IsLoaded l.model l.self;
  steps : Tightens l.model l.ends l.initial.self true l.self;
  slack : IsSlack (slice_index_or l.ends l.row no_ends) (least_sum (slice_index_or (rows_of l.model) l.row []) (box_in l.self)) (greatest_sum (slice_index_or (rows_of l.model) l.row []) (box_in l.self)) l.slack;
  still : length l.self.trail.items ≡ length l.initial.self.trail.items → ((k : ℕ) → k < l.column-index → ColumnStays (rows_of l.model) l.ends l.row (slice_index_or l.terms k (0, pos 0)).0 (box_in l.initial.self)) × (l.self.queue ≡ l.initial.self.queue);
}
