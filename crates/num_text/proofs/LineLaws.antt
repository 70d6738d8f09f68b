-- The first line of a text, and those behind it.
use Rattle.std.proofs.Common.{◌≡◌, ◌∙◌, ap, ℕ, ◌+◌, ◌<◌, ◌≤◌, Bool, cond, true, false, List, [], ◌∷◌, length, take, drop, suc, refl, arith, Some, None}
use Rattle.std.specs.List.{slice_split, onto_first, position_or_len, position}
use Rattle.std.proofs.lemmas.List.Sums.{fails_before_first}
use Rattle.std.proofs.lemmas.List.Splits.{slice_split_first, slice_split_none}
use Rattle.std.proofs.lemmas.Bool.Decides.{nat_tests}
use Rattle.num_text.specs.Lines.{is_line_feed, without_last_empty, lines_of}

-- a further part keeps the first one
onto_last : (p : ℕ → Bool) (l bytes : List ℕ) → without_last_empty (l ∷ slice_split p bytes) ≡ l ∷ without_last_empty (slice_split p bytes)
onto_last p l [] = refl
onto_last p l (b ∷ bytes) = elim (p b) as (λ t. without_last_empty (l ∷ cond t ([] ∷ slice_split p bytes) (onto_first b (slice_split p bytes))) ≡ l ∷ without_last_empty (cond t ([] ∷ slice_split p bytes) (onto_first b (slice_split p bytes)))) [
  | true ↦ refl
  | false ↦ elim (slice_split p bytes) as (λ parts. without_last_empty (l ∷ onto_first b parts) ≡ l ∷ without_last_empty (onto_first b parts)) [ [] ↦ refl | part ∷ parts ↦ refl ]
]

-- the place that is found
position-Some : (p : ℕ → Bool) (bytes : List ℕ) (end : ℕ) → position p bytes ≡ Some end → (end ≡ position_or_len p bytes) × (end < length bytes)
position-Some p bytes end e = grind (arith, nat_tests)

-- no place is found
position-None : (p : ℕ → Bool) (bytes : List ℕ) → position p bytes ≡ None → length bytes ≤ position_or_len p bytes
position-None p bytes e = grind (arith, nat_tests)

-- a line with a line feed
pub lines_of-feed : (bytes : List ℕ) (end : ℕ) → position is_line_feed bytes ≡ Some end → lines_of bytes ≡ take end bytes ∷ lines_of (drop (end + 1) bytes)
lines_of-feed bytes end e =
    let found = position-Some is_line_feed bytes end e in
    rw found.0 (ap without_last_empty (slice_split_first is_line_feed bytes 0 (omega (arith, found.1))) ∙ onto_last is_line_feed (take (position_or_len is_line_feed bytes) bytes) (drop (position_or_len is_line_feed bytes + 1) bytes))

-- a last line with a byte stays
nonempty_line : (l : List ℕ) → 0 < length l → without_last_empty (l ∷ []) ≡ l ∷ []
nonempty_line [] h = absurd (omega arith)
nonempty_line (b ∷ l) h = refl

-- a line with none, at the end of the text
pub lines_of-last : (bytes : List ℕ) → position is_line_feed bytes ≡ None → 0 < length bytes → lines_of bytes ≡ bytes ∷ []
lines_of-last bytes e some =
    let ends : length bytes ≤ position_or_len is_line_feed bytes = position-None is_line_feed bytes e in
    ap without_last_empty (slice_split_none is_line_feed bytes (λ k d h. fails_before_first is_line_feed bytes k d (omega arith))) ∙ nonempty_line bytes some

-- a byte more adds one line at most
one_byte_more : (b : ℕ) (parts : List (List ℕ)) → length (without_last_empty (onto_first b parts)) ≤ suc (length (without_last_empty parts))
one_byte_more b [] = omega arith
one_byte_more b (part ∷ []) = omega arith
one_byte_more b (part ∷ k ∷ more) = omega arith

-- each line has a byte or a line feed
pub length-lines_of : (bytes : List ℕ) → length (lines_of bytes) ≤ length bytes
length-lines_of [] = omega arith
length-lines_of (b ∷ bytes) =
    let rest : length (lines_of bytes) ≤ length bytes = length-lines_of bytes in
    elim (is_line_feed b) as (λ t. length (without_last_empty (cond t ([] ∷ slice_split is_line_feed bytes) (onto_first b (slice_split is_line_feed bytes)))) ≤ suc (length bytes)) [
      | true ↦ rw (onto_last is_line_feed [] bytes) (omega arith)
      | false ↦ omega (arith, one_byte_more b (slice_split is_line_feed bytes))
    ]
