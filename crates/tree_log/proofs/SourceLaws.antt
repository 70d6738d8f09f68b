-- The first whole line of a text and the first word of a line.
use Rattle.std.proofs.Common.{◌≡◌, ◌∙◌, ap, ℕ, ◌+◌, ◌<◌, ◌≤◌, Bool, cond, true, false, List, [], ◌∷◌, ◌++◌, get_or, length, take, drop, refl, arith, Some, None}
use Rattle.std.specs.List.{slice_split, onto_first, position_or_len, position}
use Rattle.std.proofs.lemmas.List.Sums.{fails_before_first, passes_at_first, split_at_first}
use Rattle.std.proofs.lemmas.List.Splits.{slice_split_first, slice_split_none}
use Rattle.std.proofs.lemmas.Bool.Decides.{nat_tests}
use Rattle.num_text.specs.Lines.{is_line_feed}
use Rattle.tree_log.specs.Logs.{all_but_last, whole_lines}
use Rattle.tree_log.specs.LineWords.{is_space, words_of}

-- the place that is found
position-Some : (p : ℕ → Bool) (bytes : List ℕ) (end : ℕ) → position p bytes ≡ Some end → (end ≡ position_or_len p bytes) × (end < length bytes)
position-Some p bytes end e = grind (arith, nat_tests)

-- no place is found
position-None : (p : ℕ → Bool) (bytes : List ℕ) → position p bytes ≡ None → length bytes ≤ position_or_len p bytes
position-None p bytes e = grind (arith, nat_tests)

split_found : (p : ℕ → Bool) (bytes : List ℕ) (end : ℕ) → position p bytes ≡ Some end → slice_split p bytes ≡ take end bytes ∷ slice_split p (drop (end + 1) bytes)
split_found p bytes end e =
    let found = position-Some p bytes end e in
    rw found.0 (slice_split_first p bytes 0 (omega (arith, found.1)))

split_none : (p : ℕ → Bool) (bytes : List ℕ) → position p bytes ≡ None → slice_split p bytes ≡ bytes ∷ []
split_none p bytes e =
    let ends : length bytes ≤ position_or_len p bytes = position-None p bytes e in
    slice_split_none p bytes (λ k d h. fails_before_first p bytes k d (omega arith))

pub words_of-space : (bytes : List ℕ) (end : ℕ) → position is_space bytes ≡ Some end → words_of bytes ≡ take end bytes ∷ words_of (drop (end + 1) bytes)
words_of-space bytes end e = split_found is_space bytes end e

pub words_of-last : (bytes : List ℕ) → position is_space bytes ≡ None → words_of bytes ≡ bytes ∷ []
words_of-last bytes e = split_none is_space bytes e

-- a further part keeps the first one
pub onto_last : (p : ℕ → Bool) (l bytes : List ℕ) → all_but_last (l ∷ slice_split p bytes) ≡ l ∷ all_but_last (slice_split p bytes)
onto_last p l [] = refl
onto_last p l (b ∷ bytes) = elim (p b) as (λ t. all_but_last (l ∷ cond t ([] ∷ slice_split p bytes) (onto_first b (slice_split p bytes))) ≡ l ∷ all_but_last (cond t ([] ∷ slice_split p bytes) (onto_first b (slice_split p bytes)))) [
  | true ↦ refl
  | false ↦ elim (slice_split p bytes) as (λ parts. all_but_last (l ∷ onto_first b parts) ≡ l ∷ all_but_last (onto_first b parts)) [ [] ↦ refl | part ∷ parts ↦ refl ]
]

pub whole_lines-feed : (bytes : List ℕ) (end : ℕ) → position is_line_feed bytes ≡ Some end → whole_lines bytes ≡ take end bytes ∷ whole_lines (drop (end + 1) bytes)
whole_lines-feed bytes end e =
    ap all_but_last (split_found is_line_feed bytes end e) ∙ onto_last is_line_feed (take end bytes) (drop (end + 1) bytes)

pub whole_lines-none : (bytes : List ℕ) → position is_line_feed bytes ≡ None → whole_lines bytes ≡ []
whole_lines-none bytes e = ap all_but_last (split_none is_line_feed bytes e)

-- a line feed is the byte 10
feed_is : (b : ℕ) → is_line_feed b ≡ true → b ≡ 10
feed_is b h = grind (arith, nat_tests)

pub text-feed : (bytes : List ℕ) (end : ℕ) → position is_line_feed bytes ≡ Some end → bytes ≡ take end bytes ++ 10 ∷ drop (end + 1) bytes
text-feed bytes end e =
    let found = position-Some is_line_feed bytes end e in
    let byte : get_or bytes (position_or_len is_line_feed bytes) 0 ≡ 10 = feed_is _ (passes_at_first is_line_feed bytes 0 (omega (arith, found.1))) in
    rw found.0 (split_at_first is_line_feed bytes 0 (omega (arith, found.1)) ∙ ap (λ b. take (position_or_len is_line_feed bytes) bytes ++ b ∷ drop (position_or_len is_line_feed bytes + 1) bytes) byte)
