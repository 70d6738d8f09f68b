use Rattle.std.proofs.Common.{refl, map}
use Rattle.std.specs.Prelude.{codes, decimal}
use Rattle.tree_log.specs.LogText.{stay_line}
use Rattle.tree_log.proofs.WriterLemmas.{line_written, words_map}
use Rattle.tree_log.proofs.nodes.push_stay.Goals as goal

pub returns : goal.returns
unfolding stay_line
returns c =
    line_written _ (codes "stay") (map decimal c.args.stay) _ _ _
    c.in_ok-extend_from_slice.ensures.items
    (words_map decimal _ _ _ _ c.in_ok-push_scenarios.ensures refl)
    c.in_ok-push.ensures.items
