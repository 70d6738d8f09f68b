use Rattle.std.proofs.Common.{◌≡◌, map, filter}
use Rattle.num_text.specs.Lines.{is_nonempty}
use Rattle.num_text.proofs.lines.read_fields.Given as goal

abbrev pub invariant-loop-piece : goal.invariant-loop-piece
invariant-loop-piece l = map (λ f. f.now) l.fields.items ≡ filter is_nonempty (map (λ p. p.now) l.yielded)
