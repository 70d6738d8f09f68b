use Rattle.std.proofs.Common.{map, string_bytes, sym, ◌∙◌, Some, None, arith}
use Rattle.command_line.specs.Found.{past_of}
use Rattle.command_line.proofs.OptionLemmas.{option_next, odd_left}
use Rattle.command_line.proofs.options.read_options.Goals as goal

pub returns-in_err-so_far : goal.returns-in_err-so_far
returns-in_err-so_far c =
    rw c.from_residual.ensures (sym (option_next (map string_bytes c.args.words.now) (past_of c.loop-left.so_far) c.loop-left.left.now c.name-item.result c.value-item.result c.as_str.result.now c.as_str-in-len2-up.result.now None (omega arith) c.name-item.is c.value-item.is c.as_str.ensures.value c.as_str-in-len2-up.ensures.value c.loop-left.invariant c.in_err-so_far.ensures))

pub loop-left-preserved : goal.loop-left-preserved
loop-left-preserved c =
    option_next (map string_bytes c.args.words.now) (past_of c.loop-left.so_far) c.loop-left.left.now c.name-item.result c.value-item.result c.as_str.result.now c.as_str-in-len2-up.result.now (Some (past_of c.in_ok-so_far.so_far)) (omega arith) c.name-item.is c.value-item.is c.as_str.ensures.value c.as_str-in-len2-up.ensures.value c.loop-left.invariant c.in_ok-so_far.ensures

pub returns-else-is_empty : goal.returns-else-is_empty
returns-else-is_empty c =
    sym (c.loop-left.invariant ∙ odd_left (past_of c.loop-left.so_far) c.loop-left.left.now (omega arith) c.if-is_empty.ensures)
