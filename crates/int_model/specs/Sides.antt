-- The two lists of sides by which a box is kept.
use Rattle.std.specs.Prelude.{◌≡◌, ℤ, List, length, All}
use Rattle.int_model.specs.Limits.{IsBound}

-- as many lows as highs, all within the limit
pub record AreSides (lows highs : List ℤ) : Type 0 where
  pub same_length : length lows ≡ length highs
  pub small_lows : All IsBound lows
  pub small_highs : All IsBound highs
