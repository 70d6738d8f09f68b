use Rattle.std.proofs.Common.{◌≡◌, ◌≤◌, arith, ◌^◌, true, sym}
use Rattle.command_line.specs.Words.{is_number}
use Rattle.command_line.proofs.NumberLemmas.{in_range, below_range, above_range, parsed_value, parsed_wide}
use Rattle.num_text.specs.NumberText.{digits_number}
use Rattle.command_line.proofs.parts.read_number.Goals as goal

pub returns-in-Ok : goal.returns-in-Ok
returns-in-Ok c =
    let is : is_number c.args.word.now ≡ true = sym c.if-not-is_numeral.ensures in
    in_range c.args.least c.args.greatest c.in-Ok.number c.args.word.now is (parsed_value c.args.word.now c.in-Ok.number is c.in-Ok.ensures.value.0) (omega arith) (omega arith)

pub returns-in_default : goal.returns-in_default
returns-in_default c =
    let value : c.in-Ok.number ≡ digits_number c.args.word.now = parsed_value c.args.word.now c.in-Ok.number (sym c.if-not-is_numeral.ensures) c.in-Ok.ensures.value.0 in
    above_range c.args.least c.args.greatest c.args.word.now (omega arith)

pub returns-in_default-2 : goal.returns-in_default-2
returns-in_default-2 c =
    let value : c.in-Ok.number ≡ digits_number c.args.word.now = parsed_value c.args.word.now c.in-Ok.number (sym c.if-not-is_numeral.ensures) c.in-Ok.ensures.value.0 in
    below_range c.args.least c.args.greatest c.args.word.now (omega arith)

pub returns-in_default-3 : goal.returns-in_default-3
returns-in_default-3 c =
    let wide : 2 ^ 64 ≤ digits_number c.args.word.now = parsed_wide c.args.word.now (sym c.if-not-is_numeral.ensures) c.in_default.ensures.value.0 in
    above_range c.args.least c.args.greatest c.args.word.now (omega arith)
