-- What a row leaves of an interval, and the interval that it had.
use Rattle.std.specs.Prelude.{◌≡◌, ◌≢◌, ℤ, ◌+ℤ◌, ◌-ℤ◌, neg_ℤ, ◌≤ℤ◌, ◌<ℤ◌, Option, Some, None, IfSome}
use Rattle.int_model.specs.Limits.{IsBound}
use Rattle.int_model.specs.Boxes.{Interval}
use Rattle.int_model.specs.RowSums.{least_product}
use Rattle.int_model.specs.declared.model.Ends.{Ends}
use Rattle.tighten.specs.Replay.{narrowed}
use Rattle.tighten.specs.declared.narrowing.Narrowing.{Narrowing}
use Rattle.tighten.specs.declared.narrowing.Narrowing.TheVariants.{Same, Less, Empty}

abbrev pub interval : ℤ → ℤ → Interval
interval low high = record { low = low; high = high }

-- all of the interval, a smaller one within the limits that isn't empty, or none of it
abbrev pub IsCut : Interval → Interval → Narrowing → Type 0
IsCut left whole Same = left ≡ whole
IsCut left whole (Less low high) = (left ≡ interval low high) × (left ≢ whole) × (low ≤ℤ high) × IsBound low × IsBound high
IsCut left whole Empty = left.high <ℤ left.low

-- what an upper end of a row with this least sum leaves of the interval of a column with coefficient a, and a lower end
-- of a row with this greatest sum
abbrev pub below_end : Option ℤ → ℤ → ℤ → Interval → Interval
below_end None least a i = i
below_end (Some u) least a i = narrowed a (u -ℤ least +ℤ least_product a i) i

abbrev pub above_end : Option ℤ → ℤ → ℤ → Interval → Interval
above_end None most a i = i
above_end (Some w) most a i = narrowed (neg_ℤ a) (most -ℤ w +ℤ least_product (neg_ℤ a) i) i

-- a slack that neither end of a row with these sums exceeds
pub record IsSlack (e : Ends) (least most slack : ℤ) : Type 0 where
  pub upper : IfSome e.upper (λ u. slack ≤ℤ (u -ℤ least))
  pub lower : IfSome e.lower (λ w. slack ≤ℤ (most -ℤ w))

-- what is read past the last row's ends
abbrev pub no_ends : Ends
no_ends = record { lower = None; upper = None }
