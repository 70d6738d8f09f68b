use Rattle.std.proofs.Common.{◌≡◌, ◌∙◌, ap, sym, rules, [], ◌+◌, ◌∷◌, ◌++◌, take}
use Rattle.std.proofs.lemmas.List.{take_rest}
use Rattle.tree_log.specs.Logs.{whole_lines}
use Rattle.tree_log.proofs.SourceLaws.{whole_lines-feed, whole_lines-none, text-feed}
use Rattle.tree_log.proofs.source.cut_line.Goals as goal

pub returns-clause-some : goal.returns-clause-some
returns-clause-some c =
    whole_lines-feed c.args.bytes.now c.in_ok-end.end (sym c.first_line_feed.ensures ∙ c.in_ok-end.was)
    ∙ ap (λ l. take c.in_ok-end.end c.args.bytes.now ∷ whole_lines l) (sym (take_rest c.args.bytes.now (c.in_ok-end.end + 1)))

pub returns-clause-text : goal.returns-clause-text
returns-clause-text c =
    text-feed c.args.bytes.now c.in_ok-end.end (sym c.first_line_feed.ensures ∙ c.in_ok-end.was)
    ∙ ap (λ l. take c.in_ok-end.end c.args.bytes.now ++ 10 ∷ l) (sym (take_rest c.args.bytes.now (c.in_ok-end.end + 1)))

pub returns-in_err-end-clause-none : goal.returns-in_err-end-clause-none
returns-in_err-end-clause-none c =
    let none : whole_lines c.args.bytes.now ≡ [] = whole_lines-none c.args.bytes.now (sym c.first_line_feed.ensures ∙ c.in_err-end.was) in
    search rules
