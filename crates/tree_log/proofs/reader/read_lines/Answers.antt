use Rattle.std.proofs.Common.{◌≡◌, rules, Some, None, []}
use Rattle.tree_log.specs.Logs.{whole_lines}
use Rattle.tree_log.specs.LineWords.{words_of}
use Rattle.tree_log.specs.Drafts.{draft_of, taken, finished}
use Rattle.tree_log.proofs.Runs.{reached_more}
use Rattle.tree_log.proofs.Endings.{ended_well, not_ended, not_taken}
use Rattle.tree_log.proofs.reader.read_lines.Goals as goal

pub loop-text-preserved : goal.loop-text-preserved
loop-text-preserved c =
    let took : taken (draft_of c.loop-text.draft) (words_of c.in-Some.text.now) ≡ Some (draft_of c.in-Ok.next) = search rules in
    record {
      reached = reached_more c.args.bytes.now c.loop-text.rest.now c.in-Some.text.now c.in-Some.behind.now c.loop-text.line (draft_of c.loop-text.draft) (draft_of c.in-Ok.next) c.loop-text.invariant.reached c.in-Some.ensures.some c.in-Some.ensures.text took;
      few = c.loop-text.invariant.few;
    }

pub returns-in-Err-Spelling : goal.returns-in-Err-Spelling
returns-in-Err-Spelling c =
    let took : taken (draft_of c.loop-text.draft) (words_of c.in-Some.text.now) ≡ None = search rules in
    not_taken c.args.bytes.now c.loop-text.rest.now c.in-Some.text.now c.in-Some.behind.now c.loop-text.line (draft_of c.loop-text.draft) c.loop-text.invariant.reached c.in-Some.ensures.some took

pub returns-in-Some-finished : goal.returns-in-Some-finished
returns-in-Some-finished c =
    let log : finished (draft_of c.loop-text.draft) c.loop-text.rest.now ≡ Some c.in-Some-finished.log = search rules in
    let none : whole_lines c.loop-text.rest.now ≡ [] = search rules in
    ended_well c.args.bytes.now c.loop-text.rest.now c.loop-text.line (draft_of c.loop-text.draft) c.in-Some-finished.log c.loop-text.invariant.reached log

pub returns-in-None : goal.returns-in-None
returns-in-None c =
    let log : finished (draft_of c.loop-text.draft) c.loop-text.rest.now ≡ None = search rules in
    let none : whole_lines c.loop-text.rest.now ≡ [] = search rules in
    not_ended c.args.bytes.now c.loop-text.rest.now c.loop-text.line (draft_of c.loop-text.draft) c.loop-text.invariant.reached none log
