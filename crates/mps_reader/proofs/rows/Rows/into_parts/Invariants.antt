use Rattle.std.proofs.Common.{◌≡◌, pos, []}
use Rattle.std.specs.Prelude.{filter_map, unwrap_or}
use Rattle.num_text.specs.Words.{last_of}
use Rattle.mps_reader.specs.MadeRows.{row_made, constant_made, costs_made}
use Rattle.mps_reader.proofs.rows.Rows.into_parts.Given as goal

abbrev pub invariant-loop-draft : goal.invariant-loop-draft
invariant-loop-draft l = record {
  rows : l.rows.items ≡ filter_map row_made l.yielded;
  constant : l.constant ≡ unwrap_or (last_of (filter_map constant_made l.yielded)) (pos 0);
  costs : l.costs.items ≡ unwrap_or (last_of (filter_map costs_made l.yielded)) [];
}
