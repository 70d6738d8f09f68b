-- Orders and targets of a dive.
use Rattle.std.specs.Prelude.{◌≡◌, ℕ, ◌<◌, length, All}
use Rattle.dive.specs.declared.plan.Plan.{Plan}

-- an order of columns, and two numbers for each column
pub record IsPlan (columns : ℕ) (p : Plan) : Type 0 where
  pub order : All (λ (j : ℕ). j < columns) p.order.items
  pub targets : length p.targets.items ≡ columns
  pub others : length p.others.items ≡ columns
