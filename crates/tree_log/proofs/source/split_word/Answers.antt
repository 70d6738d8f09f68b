use Rattle.std.proofs.Common.{◌∙◌, ap, sym, ◌+◌, ◌∷◌, take}
use Rattle.std.proofs.lemmas.List.{take_rest}
use Rattle.tree_log.specs.LineWords.{words_of}
use Rattle.tree_log.proofs.SourceLaws.{words_of-space, words_of-last}
use Rattle.tree_log.proofs.source.split_word.Goals as goal

pub returns-in-Some : goal.returns-in-Some
returns-in-Some c =
    words_of-space c.args.bytes.now c.in-Some.end (sym c.first_space.ensures ∙ c.in-Some.is)
    ∙ ap (λ l. take c.in-Some.end c.args.bytes.now ∷ words_of l) (sym (take_rest c.args.bytes.now (c.in-Some.end + 1)))

pub returns-in-None : goal.returns-in-None
returns-in-None c = words_of-last c.args.bytes.now (sym c.first_space.ensures ∙ c.in-None.is)
