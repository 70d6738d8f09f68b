use Rattle.std.proofs.Common.{◌≡◌, ◌∙◌, rules, ap, ◌∷◌, ◌++◌, [], Some}
use Rattle.tree_log.specs.LineWords.{step_of, steps_after}
use Rattle.tree_log.proofs.ReaderLemmas.{steps_more}
use Rattle.tree_log.proofs.cert_lines.read_counted_steps.Goals as goal

pub loop-row-preserved : goal.loop-row-preserved
loop-row-preserved c =
    let one : c.loop-row.words ≡ c.in-Some.row.now ∷ c.next-in-loop-row.new.self = search rules in
    let two : c.next-in-loop-row.new.self ≡ c.in_ok-column.column.now ∷ c.next-in-Some.new.self = search rules in
    let three : c.next-in-Some.new.self ≡ c.in_ok-side.side.now ∷ c.next-in-Some-2.new.self = search rules in
    let step : step_of c.args.columns c.args.rows c.in-Some.row.now c.in_ok-column.column.now c.in_ok-side.side.now ≡ Some c.in_ok-step.step = search rules in
    let words : c.loop-row.words ≡ c.in-Some.row.now ∷ c.in_ok-column.column.now ∷ c.in_ok-side.side.now ∷ c.next-in-Some-2.new.self = one ∙ ap (λ l. c.in-Some.row.now ∷ l) (two ∙ ap (λ l. c.in_ok-column.column.now ∷ l) three) in
    let pushed : c.push.new.items.items ≡ c.loop-row.steps.items ++ c.in_ok-step.step ∷ [] = search rules in
    ap (λ l. steps_after c.args.columns c.args.rows l c.next-in-Some-2.new.self) pushed ∙ steps_more c.args.columns c.args.rows c.loop-row.steps.items c.in-Some.row.now c.in_ok-column.column.now c.in_ok-side.side.now c.next-in-Some-2.new.self c.loop-row.words c.next.new.self c.in_ok-step.step words step c.loop-row.invariant
