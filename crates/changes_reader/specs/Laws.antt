-- Laws of the definitions.
use Rattle.std.specs.Prelude.{◌≡◌, ℕ, List, slice_get, Some, true, ◌↔◌}
use Rattle.int_model.specs.Build.{AreDistinct}
use Rattle.changes_reader.specs.Names.{means}

-- where no two names are the same, a name means the number that has it, and no other
abbrev pub MeansItsOwn : Type 0
MeansItsOwn = (names : List (List ℕ)) → AreDistinct names → (name : List ℕ) (j : ℕ) → (means names name j ≡ true) ↔ (slice_get names j ≡ Some name)
