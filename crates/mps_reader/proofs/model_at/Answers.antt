use Rattle.mps_reader.proofs.ReadingLemmas.{refused_from, error_from}
use Rattle.mps_reader.proofs.model_at.Goals as goal

pub returns-in-Err-clause-ended : goal.returns-in-Err-clause-ended
returns-in-Err-clause-ended c = λ ls kind a called e. refused_from c.args.line kind c.in-Err.fault c.at.result c.at.ensures (c.in-Err.ensures.ended ls kind a called e)

pub returns-in-Err-clause-err : goal.returns-in-Err-clause-err
returns-in-Err-clause-err c = λ ls h. error_from c.args.line c.in-Err.fault c.at.result _ c.at.ensures (c.in-Err.ensures.err ls h)
