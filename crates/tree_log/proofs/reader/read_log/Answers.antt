use Rattle.tree_log.proofs.RoundTrip.{read_again}
use Rattle.tree_log.proofs.reader.read_log.Goals as goal

pub returns-clause-again : goal.returns-clause-again
returns-clause-again c = λ f log. read_again c.args.bytes.now c.read_lines.result f c.read_lines.ensures log
