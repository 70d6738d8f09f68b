use Rattle.std.proofs.Common.{sym}
use Rattle.node_work.proofs.climbs.climb_next.Goals as goal

pub climb_in-requires-clause-columns : goal.climb_in-requires-clause-columns
climb_in-requires-clause-columns c = (c.requires.parts c.in-Some.s c.in-Some-part.part.now (sym c.in-Some-part.ensures)).columns

pub climb_in-requires-clause-occupied : goal.climb_in-requires-clause-occupied
climb_in-requires-clause-occupied c = (c.requires.parts c.in-Some.s c.in-Some-part.part.now (sym c.in-Some-part.ensures)).occupied
