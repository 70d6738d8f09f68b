use Rattle.std.proofs.Common.{refl, ◌∷◌, length}
use Rattle.std.specs.Prelude.{codes, decimal, flat_map}
use Rattle.tree_log.specs.LogText.{step_words, steps_line}
use Rattle.tree_log.proofs.WriterLemmas.{line_written, word_more, words_flat}
use Rattle.tree_log.proofs.certificates.push_steps.Goals as goal

pub returns : goal.returns
unfolding steps_line
returns c =
    line_written _ (codes "steps") (decimal (length c.args.steps.now) ∷ flat_map step_words c.args.steps.now) _ _ _
    c.in_ok-extend_from_slice.ensures.items
    (word_more _ _ _ _ _ c.in_ok-push_count.ensures (words_flat step_words _ _ _ _ c.in_ok-push_step_words.ensures refl))
    c.in_ok-push.ensures.items
