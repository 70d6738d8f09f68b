-- What a row and a box need for their sums to stay within the limits, and how far products lie apart.
use Rattle.std.specs.Prelude.{◌≡◌, ℕ, ◌<◌, ℤ, pos, ◌-ℤ◌, ◌≤ℤ◌, ◌≤◌, List, length, slice_index_or, All}
use Rattle.int_model.specs.Boxes.{Box, interval_at}
use Rattle.int_model.specs.Limits.{IsBound}
use Rattle.int_model.specs.RowSums.{least_product, greatest_product}
use Rattle.int_model.specs.Programs.{Terms, AreTerms}

-- a row over at most 1,000 columns, with a low and a high end for each
pub record AreSummed (terms : Terms) (low high : List ℤ) : Type 0 where
  pub few : length low ≤ 1000
  pub sides : length low ≡ length high
  pub row : AreTerms 0 (length low) terms
  pub lows : All IsBound low
  pub highs : All IsBound high

-- how far the least and the greatest product of a term lie apart
abbrev pub spread : ℕ × ℤ → Box → ℤ
spread t box = greatest_product t.1 (interval_at box t.0) -ℤ least_product t.1 (interval_at box t.0)

-- no term's spread is above w
abbrev pub SpreadWithin : ℕ → Terms → Box → Type 0
SpreadWithin w terms box = (k : ℕ) → k < length terms → spread (slice_index_or terms k (0, pos 0)) box ≤ℤ pos w
