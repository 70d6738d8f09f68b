-- Tables of numbers by name.
use Rattle.std.specs.Prelude.{◌≡◌, ℕ, List, drop, bytes_eq}
use Rattle.std.specs.List.{position_from}
use Rattle.std.specs.Borrow.{Bor}
use Rattle.std.specs.Map.{lookup}
use Rattle.changes_reader.specs.Names.{number_named}

-- each name has the number that it means among the names from j on
abbrev pub AreNumbersFrom : ℕ → List (List ℕ) → List (Bor (List ℕ) × ℕ) → Type 0
AreNumbersFrom j names entries = (name : Bor (List ℕ)) → lookup (λ (k : Bor (List ℕ)). bytes_eq name.now k.now) entries ≡ position_from (λ n. bytes_eq n name.now) j (drop j names)

-- each name has the number that it means
abbrev pub AreNumbers : List (List ℕ) → List (Bor (List ℕ) × ℕ) → Type 0
AreNumbers names entries = (name : Bor (List ℕ)) → lookup (λ (k : Bor (List ℕ)). bytes_eq name.now k.now) entries ≡ number_named names name.now
