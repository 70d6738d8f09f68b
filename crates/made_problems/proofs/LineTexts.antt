-- Lines of words, cut out of a text again.
use Rattle.std.proofs.Common.{◌≡◌, ◌∙◌, ap, refl, ℕ, Bool, true, false, not, ◌&&◌, ◌||◌, cond, List, [], ◌∷◌, ◌++◌, filter, append_assoc, nat_eq}
use Rattle.std.specs.List.{slice_split, onto_first, list_any, list_all, join_with_byte}
use Rattle.num_text.specs.Lines.{is_blank, is_line_feed, is_nonempty, without_last_empty, lines_of, fields_of}
use Rattle.num_text.specs.Words.{line, is_read}
use Rattle.num_text.proofs.NumberLaws.{and_parts}
use Rattle.mps_reader.proofs.OpeningLemmas.{or-parts, list_any-append}

-- a byte that ends a word
abbrev pub is_end_of_word : ℕ → Bool
is_end_of_word b = is_blank b || is_line_feed b

abbrev pub is_word : List ℕ → Bool
is_word w = is_nonempty w && not (list_any is_end_of_word w)

not_true : (b : Bool) → not b ≡ true → b ≡ false
not_true true h = cc
not_true false h = refl

-- no byte of a word is a blank, and none is a line feed
no_blank : (w : List ℕ) → list_any is_end_of_word w ≡ false → list_any is_blank w ≡ false
no_blank [] h = refl
no_blank (b ∷ w) h =
    let split = or-parts (is_end_of_word b) (list_any is_end_of_word w) h in
    rw ((or-parts (is_blank b) (is_line_feed b) split.0).0) (no_blank w split.1)

no_feed : (w : List ℕ) → list_any is_end_of_word w ≡ false → list_any is_line_feed w ≡ false
no_feed [] h = refl
no_feed (b ∷ w) h =
    let split = or-parts (is_end_of_word b) (list_any is_end_of_word w) h in
    rw ((or-parts (is_blank b) (is_line_feed b) split.0).1) (no_feed w split.1)

whole_word : (w : List ℕ) → is_word w ≡ true → list_any is_end_of_word w ≡ false
whole_word w h = not_true (list_any is_end_of_word w) (and_parts (is_nonempty w) (not (list_any is_end_of_word w)) h).1

-- ---- cuts

-- the first part ends at the first byte that passes
cut_at : (p : ℕ → Bool) (xs : List ℕ) (y : ℕ) (ys : List ℕ) → list_any p xs ≡ false → p y ≡ true → slice_split p (xs ++ y ∷ ys) ≡ xs ∷ slice_split p ys
cut_at p [] y ys h k = rw k refl
cut_at p (x ∷ xs) y ys h k =
    let split = or-parts (p x) (list_any p xs) h in
    rw (split.0) (ap (onto_first x) (cut_at p xs y ys split.1 k))

uncut : (p : ℕ → Bool) (xs : List ℕ) → list_any p xs ≡ false → slice_split p xs ≡ xs ∷ []
uncut p [] h = refl
uncut p (x ∷ xs) h =
    let split = or-parts (p x) (list_any p xs) h in
    rw (split.0) (ap (onto_first x) (uncut p xs split.1))

-- ---- the fields of words

all_kept : (ws : List (List ℕ)) → list_all is_word ws ≡ true → filter is_nonempty ws ≡ ws
all_kept [] h = refl
all_kept (w ∷ ws) h =
    let split = and_parts (is_word w) (list_all is_word ws) h in
    rw ((and_parts (is_nonempty w) (not (list_any is_end_of_word w)) split.0).0) (ap (λ l. w ∷ l) (all_kept ws split.1))

joined_parts : (w : List ℕ) (ws : List (List ℕ)) → list_all is_word (w ∷ ws) ≡ true → slice_split is_blank (join_with_byte 32 (w ∷ ws)) ≡ w ∷ ws
joined_parts w [] h = uncut is_blank w (no_blank w (whole_word w (and_parts (is_word w) true h).0))
joined_parts w (v ∷ ws) h =
    let split = and_parts (is_word w) (list_all is_word (v ∷ ws)) h in
    cut_at is_blank w 32 (join_with_byte 32 (v ∷ ws)) (no_blank w (whole_word w split.0)) refl ∙ ap (λ l. w ∷ l) (joined_parts v ws split.1)

-- the words of a line are its fields
pub joined_fields : (w : List ℕ) (ws : List (List ℕ)) → list_all is_word (w ∷ ws) ≡ true → fields_of (join_with_byte 32 (w ∷ ws)) ≡ w ∷ ws
joined_fields w ws h = ap (filter is_nonempty) (joined_parts w ws h) ∙ all_kept (w ∷ ws) h

-- ---- lines

joined_no_feed : (ws : List (List ℕ)) → list_all is_word ws ≡ true → list_any is_line_feed (join_with_byte 32 ws) ≡ false
joined_no_feed [] h = refl
joined_no_feed (w ∷ []) h = no_feed w (whole_word w (and_parts (is_word w) true h).0)
joined_no_feed (w ∷ v ∷ ws) h =
    let split = and_parts (is_word w) (list_all is_word (v ∷ ws)) h in
    list_any-append is_line_feed w (32 ∷ join_with_byte 32 (v ∷ ws)) ∙ rw (no_feed w (whole_word w split.0)) (joined_no_feed (v ∷ ws) split.1)

-- a further part keeps the first one
onto_last : (p : ℕ → Bool) (l bytes : List ℕ) → without_last_empty (l ∷ slice_split p bytes) ≡ l ∷ without_last_empty (slice_split p bytes)
onto_last p l [] = refl
onto_last p l (b ∷ bytes) = elim (p b) as (λ t. without_last_empty (l ∷ cond t ([] ∷ slice_split p bytes) (onto_first b (slice_split p bytes))) ≡ l ∷ without_last_empty (cond t ([] ∷ slice_split p bytes) (onto_first b (slice_split p bytes)))) [
  | true ↦ refl
  | false ↦ elim (slice_split p bytes) as (λ parts. without_last_empty (l ∷ onto_first b parts) ≡ l ∷ without_last_empty (onto_first b parts)) [ [] ↦ refl | part ∷ parts ↦ refl ]
]

first_line : (bare rest : List ℕ) → list_any is_line_feed bare ≡ false → lines_of ((bare ++ 10 ∷ []) ++ rest) ≡ bare ∷ lines_of rest
first_line bare rest h =
    ap lines_of (append_assoc bare (10 ∷ []) rest) ∙ ap without_last_empty (cut_at is_line_feed bare 10 rest h refl) ∙ onto_last is_line_feed bare rest

-- a line of words, in front of a text
pub line_first : (ws : List (List ℕ)) (rest : List ℕ) → list_all is_word ws ≡ true → lines_of (line ws ++ rest) ≡ join_with_byte 32 ws ∷ lines_of rest
line_first ws rest h = first_line (join_with_byte 32 ws) rest (joined_no_feed ws h)

-- the same behind a space
pub spaced_first : (ws : List (List ℕ)) (rest : List ℕ) → list_all is_word ws ≡ true → lines_of ((32 ∷ line ws) ++ rest) ≡ (32 ∷ join_with_byte 32 ws) ∷ lines_of rest
spaced_first ws rest h = first_line (32 ∷ join_with_byte 32 ws) rest (joined_no_feed ws h)

-- a line with a field that doesn't begin with a star is read
read_line : (b : ℕ) (bytes : List ℕ) → nat_eq b 42 ≡ false → is_nonempty (fields_of (b ∷ bytes)) ≡ true → is_read (b ∷ bytes) ≡ true
read_line b bytes h k = rw (h, k) refl

pub spaced_read : (w : List ℕ) (ws : List (List ℕ)) → list_all is_word (w ∷ ws) ≡ true → is_read (32 ∷ join_with_byte 32 (w ∷ ws)) ≡ true
spaced_read w ws h = ap is_nonempty (joined_fields w ws h)

pub spaced_fields : (w : List ℕ) (ws : List (List ℕ)) → list_all is_word (w ∷ ws) ≡ true → fields_of (32 ∷ join_with_byte 32 (w ∷ ws)) ≡ w ∷ ws
spaced_fields w ws h = joined_fields w ws h

-- the first byte of a line of words is that of its first word
pub joined_read : (b : ℕ) (w : List ℕ) (ws : List (List ℕ)) → nat_eq b 42 ≡ false → list_all is_word ((b ∷ w) ∷ ws) ≡ true → is_read (join_with_byte 32 ((b ∷ w) ∷ ws)) ≡ true
joined_read b w [] h k = read_line b w h (ap is_nonempty (joined_fields (b ∷ w) [] k))
joined_read b w (v ∷ ws) h k = read_line b (w ++ 32 ∷ join_with_byte 32 (v ∷ ws)) h (ap is_nonempty (joined_fields (b ∷ w) (v ∷ ws) k))
