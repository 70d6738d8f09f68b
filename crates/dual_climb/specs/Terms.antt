-- The terms of a column of a model within the limits.
use Rattle.std.specs.Prelude.{ℕ, ℤ, ◌<◌}
use Rattle.int_model.specs.Limits.{IsEntry}

pub record IsTerm (n : ℕ) (t : ℕ × ℤ) : Type 0 where
  pub row : t.0 < n
  pub coefficient : IsEntry t.1
