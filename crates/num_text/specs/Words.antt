-- Words that the readers and the writers of texts share.
use Rattle.std.specs.Prelude.{ℕ, Bool, false, ◌&&◌, not, nat_eq, List, [], ◌∷◌, ◌++◌, Option, Some, None, bytes_eq}
use Rattle.std.specs.List.{list_any, join_with_byte}
use Rattle.num_text.specs.Lines.{fields_of, is_nonempty}

-- a line that is read: it has a field and doesn't begin with a star
abbrev pub is_read : List ℕ → Bool
is_read [] = false
is_read (b ∷ bytes) = not (nat_eq b 42) && is_nonempty (fields_of (b ∷ bytes))

abbrev pub is_one_of : List (List ℕ) → List ℕ → Bool
is_one_of words word = list_any (bytes_eq word) words

-- the last element
abbrev pub last_of : {X : Type 0} → List X → Option X
last_of [] = None
last_of (x ∷ []) = Some x
last_of (x ∷ y ∷ xs) = last_of (y ∷ xs)

-- words parted by one space, and a line feed
abbrev pub line : List (List ℕ) → List ℕ
line words = join_with_byte 32 words ++ 10 ∷ []
