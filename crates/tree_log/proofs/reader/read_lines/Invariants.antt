use Rattle.std.proofs.Common.{length, ◌≤◌}
use Rattle.tree_log.specs.Drafts.{draft_of}
use Rattle.tree_log.proofs.Runs.{Reached}
use Rattle.tree_log.proofs.reader.read_lines.Given as goal

abbrev pub invariant-loop-text : goal.invariant-loop-text
invariant-loop-text l = record { reached : Reached l.bytes l.rest l.line (draft_of l.draft); few : length l.bytes ≤ 1073741824 }

abbrev pub decreases-loop-text : goal.decreases-loop-text
decreases-loop-text l = length l.rest
