use Rattle.std.proofs.Common.{arith}
use Rattle.changes_reader.specs.Names.{row_names}
use Rattle.changes_reader.proofs.TableLemmas.{item_numbered, all_numbered}
use Rattle.changes_reader.proofs.tables.row_numbers.Goals as goal

pub loop-i-preserved : goal.loop-i-preserved
loop-i-preserved c = item_numbered (λ x. x.name) c.args.model.now.rows _ c.loop-i.i c.row.result.now c.as_slice.result c.loop-i.numbers.entries c.insert.new.self.entries (omega arith) (omega arith) c.row.ensures.value c.as_slice.ensures.value c.loop-i.invariant c.in_ok-insert.ensures.updates.0

pub returns : goal.returns
returns c = all_numbered (row_names c.args.model.now) c.loop-i.i c.loop-i.numbers.entries (omega arith) c.loop-i.invariant
