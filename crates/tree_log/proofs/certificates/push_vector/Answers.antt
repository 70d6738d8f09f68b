use Rattle.std.proofs.Common.{ap, ◌∷◌, length}
use Rattle.std.specs.Prelude.{codes, decimal, flat_map}
use Rattle.tree_log.specs.LogText.{entry_words, vector_line}
use Rattle.tree_log.proofs.WriterLemmas.{line_written, word_more, word_same, words_flat}
use Rattle.tree_log.proofs.certificates.push_vector.Goals as goal

pub returns : goal.returns
unfolding vector_line
returns c =
    let es = c.args.vector.now.entries in
    let entries = words_flat entry_words _ _ _ _ c.in_ok-push_entries.ensures c.entries-2.ensures.value in
    let count = word_same _ _ _ _ c.in_ok-push_count-2.ensures (ap (λ ys. decimal (length ys)) c.entries.ensures.value) in
    let scale = word_same _ _ _ _ c.in_ok-push_count.ensures (ap decimal c.scale.ensures.value) in
    line_written _ (codes "vector") (decimal c.args.vector.now.scale ∷ decimal (length c.args.vector.now.entries) ∷ flat_map entry_words c.args.vector.now.entries) _ _ _
    c.in_ok-extend_from_slice.ensures.items
    (word_more _ _ (decimal (length es) ∷ flat_map entry_words es) _ _ scale (word_more _ _ (flat_map entry_words es) _ _ count entries))
    c.in_ok-push.ensures.items
