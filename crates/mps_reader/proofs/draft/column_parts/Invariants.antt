use Rattle.std.proofs.Common.{◌≡◌, ◌≤◌, ◌+◌, length, map, List}
use Rattle.std.specs.List.{All}
use Rattle.std.specs.Vec.Iter.{into_iter_items}
use Rattle.mps_reader.specs.MpsLines.{Line}
use Rattle.mps_reader.specs.MpsModels.{end_kind}
use Rattle.mps_reader.specs.EndedColumns.{IsColumnOf, part_of, costs_from}
use Rattle.mps_reader.proofs.EndLemmas.{names_of}
use Rattle.mps_reader.proofs.draft.column_parts.Given as goal

abbrev pub invariant-loop-draft : goal.invariant-loop-draft
invariant-loop-draft l = record {
  room : l.number + length (into_iter_items l.draft-iterator) ≤ 1000;
  rest : (ls : List Line) → All (IsColumnOf ls) l.fn.columns.items → All (IsColumnOf ls) (into_iter_items l.draft-iterator);
  kind : (ls : List Line) → All (IsColumnOf ls) l.fn.columns.items → end_kind ls (names_of l.fn.columns.items) ≡ end_kind ls (names_of (into_iter_items l.draft-iterator));
  left : (ls : List Line) → l.fn.costs ≡ costs_from 0 ls (names_of l.fn.columns.items) → l.costs ≡ costs_from l.number ls (names_of (into_iter_items l.draft-iterator));
  made : (ls : List Line) → All (IsColumnOf ls) l.fn.columns.items → l.fn.costs ≡ costs_from 0 ls (names_of l.fn.columns.items) → l.parts.items ≡ map (part_of ls) l.yielded;
}
