use Rattle.scenario_changes.specs.Problems.{problem}
use Rattle.certs.proofs.ClaimLaws.{all_within}
use Rattle.bb_core.proofs.CoverageLaws.{Covers-nothing_lost}
use Rattle.open_pool.proofs.pool.Pool.nothing_is_lost.Goals as goal

pub returns : goal.returns
returns c = rw (← c.self.view_is) (Covers-nothing_lost (problem c.self.inside.problem.now) (all_within (problem c.self.inside.problem.now) c.self.invariant.right) c.self.inside.slots.items c.self.inside.caps.items c.self.invariant.covered)
