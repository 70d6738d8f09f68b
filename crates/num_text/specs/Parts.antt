-- The parts of a number text, as the code keeps them.
use Rattle.std.specs.Prelude.{ℤ}
use Rattle.num_text.specs.NumberText.{digits_number, with_sign}
use Rattle.num_text.specs.declared.parts.Exponent.{Exponent}

-- what the exponent adds to the places
abbrev pub exponent_value : Exponent → ℤ
exponent_value e = with_sign e.negative (digits_number e.digits.now)
