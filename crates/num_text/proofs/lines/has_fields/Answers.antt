use Rattle.std.proofs.Common.{◌∙◌, sym}
use Rattle.num_text.proofs.FieldLaws.{is_nonempty-fields_of}
use Rattle.num_text.proofs.lines.has_fields.Goals as goal

pub returns : goal.returns
returns c = c.has_text.ensures ∙ sym (is_nonempty-fields_of c.args.line.now)
