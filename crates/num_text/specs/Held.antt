-- Numbers that are held at the greatest one of 64 bits.
use Rattle.std.specs.Prelude.{ℕ, ◌-◌, ◌^◌, min}

abbrev pub held : ℕ → ℕ
held n = min n (2 ^ 64 - 1)
