-- Words that follow another word on a line.
use Rattle.std.specs.Prelude.{ℕ, List, ◌∷◌, flat_map}

-- each word behind a space
abbrev pub spaced : List (List ℕ) → List ℕ
spaced words = flat_map (λ w. 32 ∷ w) words
