use Rattle.std.proofs.Common.{arith}
use Rattle.changes_reader.specs.Names.{column_names}
use Rattle.changes_reader.proofs.TableLemmas.{item_numbered, all_numbered}
use Rattle.changes_reader.proofs.tables.column_numbers.Goals as goal

pub loop-j-preserved : goal.loop-j-preserved
loop-j-preserved c = item_numbered (λ x. x.name) c.args.model.now.columns _ c.loop-j.j c.column.result.now c.as_slice.result c.loop-j.numbers.entries c.insert.new.self.entries (omega arith) (omega arith) c.column.ensures.value c.as_slice.ensures.value c.loop-j.invariant c.in_ok-insert.ensures.updates.0

pub returns : goal.returns
returns c = all_numbered (column_names c.args.model.now) c.loop-j.j c.loop-j.numbers.entries (omega arith) c.loop-j.invariant
