use Rattle.std.proofs.Common.{◌≡◌, false}
use Rattle.scenario_changes.specs.Problems.{problem, program_at}
use Rattle.certs.specs.Trees.{some_row_misses}
use Rattle.certs.proofs.stayers.missed_row.Given as goal

abbrev pub invariant-loop-i : goal.invariant-loop-i
invariant-loop-i l = some_row_misses (program_at (problem l.problem) l.s) l.i l.part ≡ false
