use Rattle.std.proofs.Common.{rules, arith, ◌≡◌, ◌∙◌, ap, sym, subst, true, ◌+◌, length, map, List, ℕ, ◌∷◌, [], None, Err}
use Rattle.scenario_changes.specs.Changes.{ChangeSet, Fits}
use Rattle.int_model.specs.Models.{IntegerModel}
use Rattle.changes_reader.specs.Kinds.{line_kind}
use Rattle.changes_reader.specs.Takings.{Takes, taken}
use Rattle.changes_reader.specs.Readings.{IsReading}
use Rattle.changes_reader.specs.declared.ChangesError.{ChangesError}
use Rattle.num_text.specs.Lines.{lines_of, is_line_feed, fields_of}
use Rattle.num_text.specs.Words.{is_read}
use Rattle.changes_reader.specs.ChangesText.{read_from, changes_of_lines, changes_of}
use Rattle.changes_reader.proofs.Runs.{run, begun, one_taken, one_refused, taken_fits}
use Rattle.changes_reader.proofs.FieldLemmas.{AllLack, lines_lack, all_fields, first_lacks}
use Rattle.changes_reader.proofs.Steps.{changes_are_run}
use Rattle.changes_reader.proofs.read_changes.Goals as goal

pub loop-line-init : goal.loop-line-init
loop-line-init c =
    let same : c.into_iter-line-iterator.result ≡ c.new-line-items.result = search rules in
    let lines : c.into_iter-line-iterator.result ≡ lines_of c.args.bytes.now = same ∙ c.new-line-items.ensures.lines in
    let start : c.in_ok-changes.changes ≡ changes_of_lines c.args.model.now [] = begun c.args.model.now c.in_ok-changes.changes c.in_ok-changes.ensures.fits c.in_ok-changes.ensures.empty.0 c.in_ok-changes.ensures.empty.1 in
    record {
      few = omega (arith, ap length same, c.new-line-items.ensures.bound);
      whole_lines = subst (AllLack is_line_feed) (sym lines) (lines_lack c.args.bytes.now);
      fits = c.in_ok-changes.ensures.fits;
      rest = changes_are_run c.args.model.now c.args.bytes.now ∙ ap (λ (d : ChangeSet). run c.args.model.now true d (read_from 1 (lines_of c.args.bytes.now))) (sym start) ∙ ap (λ (ls : List (List ℕ)). run c.args.model.now true c.in_ok-changes.changes (read_from 1 ls)) (sym lines);
    }

pub take_line-requires-clause-words : goal.take_line-requires-clause-words
take_line-requires-clause-words c =
    let lines : c.loop-line.line-iterator ≡ c.in-Some.line.now ∷ c.next.new.self = search rules in
    all_fields c.in-Some.line.now c.deref.result.now (ap (map (λ f. f.now)) c.deref.ensures.value ∙ c.in_ok-read_fields.ensures) (first_lacks is_line_feed c.in-Some.line.now c.next.new.self c.loop-line.line-iterator lines c.loop-line.invariant.whole_lines).0

pub loop-line-preserved : goal.loop-line-preserved
loop-line-preserved c =
    let lines : c.loop-line.line-iterator ≡ c.in-Some.line.now ∷ c.next.new.self = search rules in
    let read : is_read c.in-Some.line.now ≡ true = search rules in
    let fields : map (λ f. f.now) c.deref.result.now ≡ fields_of c.in-Some.line.now = ap (map (λ f. f.now)) c.deref.ensures.value ∙ c.in_ok-read_fields.ensures in
    let words : List (List ℕ) = map (λ f. f.now) c.deref.result.now in
    let P : IntegerModel → Type 0 = λ m. (line_kind m c.loop-line.is_first (length c.loop-line.changes.scenarios) words ≡ None) × (c.take_line.new.changes ≡ taken m c.loop-line.changes words) in
    let taking : P c.args.model.now = subst P c.in_ok-tables.ensures c.in-Ok.ensures in
    record {
      few = omega (arith, ap length lines, c.loop-line.invariant.few);
      whole_lines = (first_lacks is_line_feed c.in-Some.line.now c.next.new.self c.loop-line.line-iterator lines c.loop-line.invariant.whole_lines).1;
      fits = subst (λ (d : ChangeSet). Fits d c.args.model.now) (sym taking.1) (taken_fits c.args.model.now c.loop-line.changes words c.loop-line.invariant.fits);
      rest = one_taken c.args.model.now c.loop-line.is_first c.loop-line.changes c.take_line.new.changes (c.loop-line.number + 1) c.in-Some.line.now c.next.new.self c.loop-line.line-iterator words (changes_of c.args.model.now c.args.bytes.now) lines read fields taking.0 taking.1 c.loop-line.invariant.rest;
    }

pub returns-in-Err : goal.returns-in-Err
returns-in-Err c =
    let lines : c.loop-line.line-iterator ≡ c.in-Some.line.now ∷ c.next.new.self = search rules in
    let read : is_read c.in-Some.line.now ≡ true = search rules in
    let fields : map (λ f. f.now) c.deref.result.now ≡ fields_of c.in-Some.line.now = ap (map (λ f. f.now)) c.deref.ensures.value ∙ c.in_ok-read_fields.ensures in
    let words : List (List ℕ) = map (λ f. f.now) c.deref.result.now in
    let P : IntegerModel → Type 0 = λ m. Takes (line_kind m c.loop-line.is_first (length c.loop-line.changes.scenarios) words) c.take_line.new.changes (taken m c.loop-line.changes words) (Err c.in-Err.fault) in
    let taking : P c.args.model.now = subst P c.in_ok-tables.ensures c.in-Err.ensures in
    subst (λ (e : ChangesError). IsReading c.args.model.now c.args.bytes.now (Err e)) (sym c.at.ensures)
    (one_refused c.args.model.now c.args.bytes.now c.loop-line.is_first c.loop-line.changes c.take_line.new.changes (taken c.args.model.now c.loop-line.changes words) (c.loop-line.number + 1) c.in-Some.line.now c.next.new.self c.loop-line.line-iterator words c.in-Err.fault lines read fields taking c.loop-line.invariant.rest)
