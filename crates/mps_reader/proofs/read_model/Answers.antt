use Rattle.std.proofs.Common.{◌≡◌, ap, sym, ◌∙◌, map, ◌+◌, arith, Some, true, length}
use Rattle.mps_reader.specs.Drafts.{is_ended}
use Rattle.mps_reader.proofs.FieldLemmas.{fields_have_bytes}
use Rattle.mps_reader.proofs.ReadingLemmas.{line_at, line_made, reading_goes_on, reading_ends, reading_refused, refused_there, refused_at_end, accepted_at_end, columns_before, parts_before, error_there, error_at_end}
use Rattle.mps_reader.proofs.FaultLemmas.{if_ok, if_err}
use Rattle.mps_reader.specs.declared.MpsKind.{MpsKind}
use Rattle.mps_reader.specs.MpsLines.{column_names}
use Rattle.mps_reader.specs.MpsModels.{end_kind}
use Rattle.mps_reader.proofs.read_model.Goals as goal

pub take_line-requires-clause-nonempty : goal.take_line-requires-clause-nonempty
take_line-requires-clause-nonempty c = fields_have_bytes c.in-Some.line.now c.deref.result.now (ap (map (λ f. f.now)) c.deref.ensures.value ∙ c.in_ok-read_fields.ensures)

pub loop-line-preserved : goal.loop-line-preserved
loop-line-preserved c =
    let r = c.loop-line.invariant.reading in
    let x = c.in-Some.line.now in
    let steps = c.in-Some.ensures.steps in
    let read = sym c.is_read.ensures ∙ c.if-not-is_read.false in
    let made = line_made c.is_header.result r.earlier (c.loop-line.number + 1) x _ c.is_header.ensures (ap (map (λ f. f.now)) c.deref.ensures.value ∙ c.in_ok-read_fields.ensures) in
    let t = c.in-Ok-More.ensures.ok r.earlier (line_at r.earlier (c.loop-line.number + 1) x) made r.agrees in
    record {
      room = omega (arith, c.loop-line.invariant.room, ap length steps);
      reading = reading_goes_on c.loop-line.draft c.loop-line.number x c.loop-line.line-iterator c.next.new.self c.args.bytes.now steps r c.take_line.new.self read t.good (sym t.ends ∙ ap is_ended c.in-Ok-More.field-0-is) t.agrees;
    }

pub returns-in-Ok-Ended-clause-refused : goal.returns-in-Ok-Ended-clause-refused
returns-in-Ok-Ended-clause-refused c =
    let r = c.loop-line.invariant.reading in
    let x = c.in-Some.line.now in
    let steps = c.in-Some.ensures.steps in
    let read = sym c.is_read.ensures ∙ c.if-not-is_read.false in
    let made = line_made c.is_header.result r.earlier (c.loop-line.number + 1) x _ c.is_header.ensures (ap (map (λ f. f.now)) c.deref.ensures.value ∙ c.in_ok-read_fields.ensures) in
    let t = c.in-Ok-Ended.ensures.ok r.earlier (line_at r.earlier (c.loop-line.number + 1) x) made r.agrees in
    let ended : is_ended c.in-Ok-Ended.field-0 ≡ true = ap is_ended c.in-Ok-Ended.field-0-is in
    let kept = c.in-Ok-Ended.ensures.ended ended in
    let ends = reading_ends c.loop-line.draft c.loop-line.number x c.loop-line.line-iterator c.next.new.self c.args.bytes.now steps r read t.good (sym t.ends ∙ ended) in
    let refuses = λ (kind : MpsKind) (e : end_kind r.earlier (column_names r.earlier) ≡ Some kind). c.model_at.ensures.ended r.earlier kind (columns_before c.loop-line.draft.columns c.take_line.new.self.columns r.earlier kept.1 r.agrees.bounds) (ap (λ d. map (λ k. k.now) d.table.names.keys) kept.1 ∙ r.agrees.heads.called) e in
    λ refusal is. refused_at_end r.earlier (line_at r.earlier (c.loop-line.number + 1) x) refusal c.model_at.result _ ends refuses is

pub returns-in-Ok-Ended-clause-accepted : goal.returns-in-Ok-Ended-clause-accepted
returns-in-Ok-Ended-clause-accepted c =
    let r = c.loop-line.invariant.reading in
    let x = c.in-Some.line.now in
    let steps = c.in-Some.ensures.steps in
    let read = sym c.is_read.ensures ∙ c.if-not-is_read.false in
    let made = line_made c.is_header.result r.earlier (c.loop-line.number + 1) x _ c.is_header.ensures (ap (map (λ f. f.now)) c.deref.ensures.value ∙ c.in_ok-read_fields.ensures) in
    let t = c.in-Ok-Ended.ensures.ok r.earlier (line_at r.earlier (c.loop-line.number + 1) x) made r.agrees in
    let ended : is_ended c.in-Ok-Ended.field-0 ≡ true = ap is_ended c.in-Ok-Ended.field-0-is in
    let kept = c.in-Ok-Ended.ensures.ended ended in
    let ends = reading_ends c.loop-line.draft c.loop-line.number x c.loop-line.line-iterator c.next.new.self c.args.bytes.now steps r read t.good (sym t.ends ∙ ended) in
    let refuses = λ (kind : MpsKind) (e : end_kind r.earlier (column_names r.earlier) ≡ Some kind). c.model_at.ensures.ended r.earlier kind (columns_before c.loop-line.draft.columns c.take_line.new.self.columns r.earlier kept.1 r.agrees.bounds) (ap (λ d. map (λ k. k.now) d.table.names.keys) kept.1 ∙ r.agrees.heads.called) e in
    accepted_at_end r.earlier (line_at r.earlier (c.loop-line.number + 1) x) c.model_at.result _ ends refuses
    (if_ok c.model_at.result _ _ (λ m is. is r.earlier (parts_before c.loop-line.draft c.take_line.new.self r.earlier (line_at r.earlier (c.loop-line.number + 1) x) kept.0 kept.1 (sym t.ends ∙ ended) r.agrees t.agrees)) c.model_at.ensures.ok)

pub returns-in-Err-clause-refused : goal.returns-in-Err-clause-refused
returns-in-Err-clause-refused c =
    let r = c.loop-line.invariant.reading in
    let x = c.in-Some.line.now in
    let steps = c.in-Some.ensures.steps in
    let read = sym c.is_read.ensures ∙ c.if-not-is_read.false in
    let made = line_made c.is_header.result r.earlier (c.loop-line.number + 1) x _ c.is_header.ensures (ap (map (λ f. f.now)) c.deref.ensures.value ∙ c.in_ok-read_fields.ensures) in
    λ refusal is.
    refused_there (c.loop-line.number + 1) c.in-Err.fault c.at.result _ refusal _ c.at.ensures
    (c.in-Err.ensures.err r.earlier (line_at r.earlier (c.loop-line.number + 1) x) made r.agrees)
    (λ kind bad. reading_refused c.loop-line.draft c.loop-line.number x c.loop-line.line-iterator c.next.new.self c.args.bytes.now steps r kind read bad)
    is

pub returns-in-Ok-Ended-clause-err : goal.returns-in-Ok-Ended-clause-err
returns-in-Ok-Ended-clause-err c =
    let r = c.loop-line.invariant.reading in
    let x = c.in-Some.line.now in
    let steps = c.in-Some.ensures.steps in
    let read = sym c.is_read.ensures ∙ c.if-not-is_read.false in
    let made = line_made c.is_header.result r.earlier (c.loop-line.number + 1) x _ c.is_header.ensures (ap (map (λ f. f.now)) c.deref.ensures.value ∙ c.in_ok-read_fields.ensures) in
    let t = c.in-Ok-Ended.ensures.ok r.earlier (line_at r.earlier (c.loop-line.number + 1) x) made r.agrees in
    let ended : is_ended c.in-Ok-Ended.field-0 ≡ true = ap is_ended c.in-Ok-Ended.field-0-is in
    let kept = c.in-Ok-Ended.ensures.ended ended in
    let ends = reading_ends c.loop-line.draft c.loop-line.number x c.loop-line.line-iterator c.next.new.self c.args.bytes.now steps r read t.good (sym t.ends ∙ ended) in
    error_at_end r.earlier (line_at r.earlier (c.loop-line.number + 1) x) _ c.model_at.result ends
    (if_err c.model_at.result _ _ (λ error is. is r.earlier (parts_before c.loop-line.draft c.take_line.new.self r.earlier (line_at r.earlier (c.loop-line.number + 1) x) kept.0 kept.1 (sym t.ends ∙ ended) r.agrees t.agrees)) c.model_at.ensures.err)

pub returns-in-Err-clause-err : goal.returns-in-Err-clause-err
returns-in-Err-clause-err c =
    let r = c.loop-line.invariant.reading in
    let x = c.in-Some.line.now in
    let steps = c.in-Some.ensures.steps in
    let read = sym c.is_read.ensures ∙ c.if-not-is_read.false in
    let made = line_made c.is_header.result r.earlier (c.loop-line.number + 1) x _ c.is_header.ensures (ap (map (λ f. f.now)) c.deref.ensures.value ∙ c.in_ok-read_fields.ensures) in
    error_there (c.loop-line.number + 1) c.in-Err.fault c.at.result _ _ c.at.ensures
    (c.in-Err.ensures.err r.earlier (line_at r.earlier (c.loop-line.number + 1) x) made r.agrees)
    (λ kind bad. reading_refused c.loop-line.draft c.loop-line.number x c.loop-line.line-iterator c.next.new.self c.args.bytes.now steps r kind read bad)
