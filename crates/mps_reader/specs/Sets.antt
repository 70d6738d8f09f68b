-- The set that a section's first line names.
use Rattle.std.specs.Prelude.{◌≡◌, ℕ, Bool, false, List, [], ◌∷◌, Option, Some, None}
use Rattle.std.specs.Borrow.{Bor}
use Rattle.mps_reader.specs.MpsRules.{is_second}

-- nothing is kept before the first name, and the first name from then on
abbrev pub AgreesWith : Option (Bor (List ℕ)) → List (List ℕ) → Type 0
AgreesWith None [] = Unit {0}
AgreesWith (Some kept) (first ∷ more) = kept.now ≡ first
AgreesWith None (first ∷ more) = ⊥
AgreesWith (Some kept) [] = ⊥

-- a line names another set than the first
abbrev pub is_other : List (List ℕ) → Option (List ℕ) → Bool
is_other sets None = false
is_other sets (Some name) = is_second sets name
