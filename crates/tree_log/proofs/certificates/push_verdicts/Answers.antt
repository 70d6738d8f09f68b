use Rattle.std.proofs.Common.{refl, map}
use Rattle.std.specs.Prelude.{codes}
use Rattle.tree_log.specs.LogText.{verdict_word, verdicts_line}
use Rattle.tree_log.proofs.WriterLemmas.{line_written, words_map}
use Rattle.tree_log.proofs.certificates.push_verdicts.Goals as goal

pub returns : goal.returns
unfolding verdicts_line
returns c =
    line_written _ (codes "verdicts") (map verdict_word c.args.verdicts.now) _ _ _
    c.in_ok-extend_from_slice.ensures.items
    (words_map verdict_word _ _ _ _ c.in_ok-push_verdict_words.ensures refl)
    c.in_ok-push.ensures.items
