use Rattle.std.proofs.Common.{sym}
use Rattle.node_work.proofs.dives.dive_for.Goals as goal

pub dive_in-requires-clause-occupied : goal.dive_in-requires-clause-occupied
dive_in-requires-clause-occupied c = (c.requires.parts c.args.s c.in-Some.part.now (sym c.in-Some.ensures)).occupied

pub dive_in-requires-clause-within : goal.dive_in-requires-clause-within
dive_in-requires-clause-within c = (c.requires.parts c.args.s c.in-Some.part.now (sym c.in-Some.ensures)).within
