use Rattle.std.proofs.Common.{◌∙◌, ap, sym, ◌+◌, ◌∷◌, take}
use Rattle.std.proofs.lemmas.List.{take_rest}
use Rattle.num_text.specs.Lines.{lines_of}
use Rattle.num_text.proofs.LineLaws.{lines_of-feed, lines_of-last}
use Rattle.num_text.proofs.lines.split_line.Goals as goal

pub returns-in-Some : goal.returns-in-Some
returns-in-Some c =
    lines_of-feed c.args.bytes.now c.in-Some.end (sym c.first_line_feed.ensures ∙ c.in-Some.is)
    ∙ ap (λ l. take c.in-Some.end c.args.bytes.now ∷ lines_of l) (sym (take_rest c.args.bytes.now (c.in-Some.end + 1)))

pub returns-in-None : goal.returns-in-None
returns-in-None c = lines_of-last c.args.bytes.now (sym c.first_line_feed.ensures ∙ c.in-None.is) c.requires
