use Rattle.std.proofs.Common.{◌≡◌, ◌<◌, ◌^◌, drop}
use Rattle.num_text.specs.NumberText.{digits_after}
use Rattle.num_text.specs.Held.{held}
use Rattle.num_text.proofs.value.number_after.Given as goal

abbrev pub invariant-loop-digit : goal.invariant-loop-digit
invariant-loop-digit l = record {
  so_far : held (digits_after l.start l.digits) ≡ held (digits_after l.number (drop l.digit-index l.digits));
  fits : l.number < 2 ^ 64;
}
