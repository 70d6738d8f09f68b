-- Items in the order of their names.
use Rattle.std.specs.Prelude.{◌≡◌, ◌<◌, ℕ, List, length, map, slice_index_or}
use Rattle.std.specs.Borrow.{Bor}

abbrev pub texts_of : List (Bor (List ℕ)) → List (List ℕ)
texts_of keys = map (λ k. k.now) keys

-- there are as many items as names, and each is right for its name
pub record IsTable {X : Type 0} (P : List ℕ → X → Type 0) (names : List (List ℕ)) (items : List X) : Type 0 where
  pub size : length items ≡ length names
  pub each : (k : ℕ) (n : List ℕ) (x : X) → k < length items → P (slice_index_or names k n) (slice_index_or items k x)

-- there are as many new items as old ones, and each is related to the old one in its place
pub record IsAlong {X : Type 0} (R : X → X → Type 0) (old new : List X) : Type 0 where
  pub size : length new ≡ length old
  pub each : (k : ℕ) (x : X) → k < length old → R (slice_index_or old k x) (slice_index_or new k x)
