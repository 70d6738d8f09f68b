use Rattle.std.proofs.Common.{◌≡◌, length, take, false, Some}
use Rattle.int_model.specs.Boxes.{is_empty}
use Rattle.tighten.specs.EndSums.{IsKeptSum}
use Rattle.tighten.specs.Replay.{tightened_by}
use Rattle.tighten.specs.Steps.{rows_of}
use Rattle.tighten.proofs.tightening.replay.Given as goal

abbrev pub invariant-loop-step : goal.invariant-loop-step
invariant-loop-step l = record {
  columns : length l.bounds ≡ length l.model.columns;
  occupied : is_empty l.bounds ≡ false;
  initially : is_empty l.initial.bounds ≡ false;
  kept : IsKeptSum (rows_of l.model) l.bounds l.kept;
  reached : tightened_by (rows_of l.model) l.ends (take l.step-index l.steps) l.initial.bounds ≡ Some l.bounds;
}
