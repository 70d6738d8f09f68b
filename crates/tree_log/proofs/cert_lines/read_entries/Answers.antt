use Rattle.std.proofs.Common.{◌≡◌, ◌∙◌, rules, ap, ◌∷◌, ◌++◌, [], Some}
use Rattle.tree_log.specs.LineWords.{entry_of, entries_after}
use Rattle.tree_log.proofs.ReaderLemmas.{entries_more}
use Rattle.tree_log.proofs.cert_lines.read_entries.Goals as goal

pub loop-row-preserved : goal.loop-row-preserved
loop-row-preserved c =
    let one : c.loop-row.words ≡ c.in-Some.row.now ∷ c.next.new.self = search rules in
    let two : c.next.new.self ≡ c.in_ok-multiplier.multiplier.now ∷ c.next-in-Some.new.self = search rules in
    let entry : entry_of c.args.rows c.in-Some.row.now c.in_ok-multiplier.multiplier.now ≡ Some c.in_ok-entry.entry = search rules in
    let words : c.loop-row.words ≡ c.in-Some.row.now ∷ c.in_ok-multiplier.multiplier.now ∷ c.next-in-Some.new.self = one ∙ ap (λ l. c.in-Some.row.now ∷ l) two in
    let pushed : c.push.new.items.items ≡ c.loop-row.entries.items ++ c.in_ok-entry.entry ∷ [] = search rules in
    ap (λ l. entries_after c.args.rows l c.next-in-Some.new.self) pushed ∙ entries_more c.args.rows c.loop-row.entries.items c.in-Some.row.now c.in_ok-multiplier.multiplier.now c.next-in-Some.new.self c.loop-row.words c.args.words c.in_ok-entry.entry words entry c.loop-row.invariant
