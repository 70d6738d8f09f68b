use Rattle.std.proofs.Common.{sym}
use Rattle.node_work.proofs.verdicts.judge_one.Goals as goal

pub strongest-choice-requires-clause-columns : goal.strongest-choice-requires-clause-columns
strongest-choice-requires-clause-columns c = (c.requires.parts c.args.s c.in-Some-part.part.now (sym c.in-Some-part.ensures)).columns
