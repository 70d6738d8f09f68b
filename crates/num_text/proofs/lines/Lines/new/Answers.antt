use Rattle.num_text.proofs.LineLaws.{length-lines_of}
use Rattle.num_text.proofs.lines.Lines.new.Goals as goal

pub returns-clause-bound : goal.returns-clause-bound
returns-clause-bound c = length-lines_of c.args.bytes.now
