-- The shares of a certificate's vectors.
use Rattle.std.specs.Prelude.{◌≡◌, ℕ, nat_eq, if◌then◌else◌, ℤ, List, slice_get, Option, Some}
use Rattle.int_model.specs.Models.{IntegerModel}
use Rattle.dual_bounds.specs.Vectors.{Multipliers}
use Rattle.dual_bounds.specs.Shared.{AreShares}
use Rattle.certs.specs.declared.vector_shares.VectorShares.{VectorShares}

-- the shares of vector k
abbrev pub shares_at : VectorShares → ℕ → Option (List ℤ)
shares_at s k = if nat_eq k 0 then s.first else s.second

-- the shares are those of the vectors, each at its place
abbrev pub HaveShares : IntegerModel → List Multipliers → VectorShares → Type 0
HaveShares m vectors s = (k : ℕ) (v : Multipliers) → slice_get vectors k ≡ Some v → AreShares m v.entries (shares_at s k)
