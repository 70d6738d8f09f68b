use Rattle.std.specs.Prelude.{codes}
use Rattle.tree_log.specs.LogText.{claim_words, claim_line}
use Rattle.tree_log.proofs.WriterLemmas.{line_written}
use Rattle.tree_log.proofs.claims.push_claim.Goals as goal

pub returns : goal.returns
unfolding claim_line
returns c =
    line_written _ (codes "claim") (claim_words c.args.answer.now) _ _ _
    c.in_ok-extend_from_slice.ensures.items
    c.in_ok-push_claim_words.ensures
    c.in_ok-push.ensures.items
