use Rattle.std.proofs.Common.{◌≡◌, map, string_bytes, length}
use Rattle.command_line.specs.Words.{options_in}
use Rattle.command_line.specs.Found.{past_of, options_after}
use Rattle.command_line.proofs.options.read_options.Given as goal

-- the words that are left, behind what has been read, say what all say
abbrev pub invariant-loop-left : goal.invariant-loop-left
invariant-loop-left l = options_in (map string_bytes l.fn.words) ≡ options_after (past_of l.so_far) (map string_bytes l.left)

abbrev pub decreases-loop-left : goal.decreases-loop-left
decreases-loop-left l = length l.left
