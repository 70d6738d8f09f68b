use Rattle.std.proofs.Common.{◌∙◌, ap, sym, ◌+◌, Some}
use Rattle.std.proofs.lemmas.List.{take_rest}
use Rattle.num_text.proofs.PartLaws.{exponent_text-Some, exponent_text-None}
use Rattle.num_text.proofs.parts.split_exponent.Goals as goal

pub returns-in-Some-clause-behind : goal.returns-in-Some-clause-behind
returns-in-Some-clause-behind c = ap Some (take_rest c.args.bytes.now (c.in-Some.place + 1)) ∙ sym (exponent_text-Some c.args.bytes.now c.in-Some.place (sym c.first_exponent_mark.ensures ∙ c.in-Some.is))

pub returns-in-None-clause-behind : goal.returns-in-None-clause-behind
returns-in-None-clause-behind c = sym (exponent_text-None c.args.bytes.now (sym c.first_exponent_mark.ensures ∙ c.in-None.is))
