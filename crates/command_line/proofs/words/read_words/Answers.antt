use Rattle.std.proofs.Common.{map, string_bytes, rules}
use Rattle.command_line.specs.Orders.{order_of}
use Rattle.command_line.proofs.RangeLemmas.{command_range}
use Rattle.command_line.proofs.words.read_words.Goals as goal

pub returns-in-Some-clause-ranges : goal.returns-in-Some-clause-ranges
returns-in-Some-clause-ranges c = command_range (map string_bytes c.args.words.now) (order_of c.in-Some.command) (search rules)
