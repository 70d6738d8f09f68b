use Rattle.plain_search.specs.Searches.{Covers, program_over, total_weight}
use Rattle.plain_search.proofs.search.search.Given as goal

abbrev pub invariant-loop-bounds : goal.invariant-loop-bounds
invariant-loop-bounds l = Covers (program_over l.problem l.s l.fn.root) l.boxes.items l.best

abbrev pub decreases-loop-bounds : goal.decreases-loop-bounds
decreases-loop-bounds l = total_weight l.boxes.items
