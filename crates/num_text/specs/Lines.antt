-- Lines and fields of a text.
use Rattle.std.specs.Prelude.{ℕ, Bool, true, false, ◌||◌, nat_eq, List, [], ◌∷◌, filter}
use Rattle.std.specs.List.{slice_split}

-- space, tab and carriage return
abbrev pub is_blank : ℕ → Bool
is_blank b = nat_eq b 32 || nat_eq b 9 || nat_eq b 13

abbrev pub is_line_feed : ℕ → Bool
is_line_feed b = nat_eq b 10

abbrev pub is_nonempty : {X : Type 0} → List X → Bool
is_nonempty [] = false
is_nonempty (x ∷ xs) = true

-- the lists without an empty one at the end
abbrev pub without_last_empty : List (List ℕ) → List (List ℕ)
without_last_empty [] = []
without_last_empty (l ∷ []) = filter is_nonempty (l ∷ [])
without_last_empty (l ∷ k ∷ more) = l ∷ without_last_empty (k ∷ more)

-- the lines, each without its line feed
abbrev pub lines_of : List ℕ → List (List ℕ)
lines_of bytes = without_last_empty (slice_split is_line_feed bytes)

-- the longest runs of bytes that aren't blank
abbrev pub fields_of : List ℕ → List (List ℕ)
fields_of line = filter is_nonempty (slice_split is_blank line)
