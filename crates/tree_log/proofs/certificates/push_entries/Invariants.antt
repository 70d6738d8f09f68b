use Rattle.std.proofs.Common.{◌≡◌, ◌++◌, drop}
use Rattle.std.specs.Prelude.{flat_map}
use Rattle.tree_log.specs.LogText.{entry_words}
use Rattle.tree_log.specs.Spaced.{spaced}
use Rattle.tree_log.proofs.certificates.push_entries.Given as goal

abbrev pub invariant-loop-row : goal.invariant-loop-row
invariant-loop-row l = l.fn.out.items ++ flat_map (λ e. spaced (entry_words e)) l.entries ≡ l.out.items ++ flat_map (λ e. spaced (entry_words e)) (drop l.row-index l.entries)
