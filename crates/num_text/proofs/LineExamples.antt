-- Worked lines, fields and words, by computing.
use Rattle.std.specs.Prelude.{◌≡◌, true, false, [], ◌∷◌, Some, refl, codes}
use Rattle.num_text.specs.Lines.{lines_of, fields_of}
use Rattle.num_text.specs.Words.{is_read, is_one_of, last_of, line}

two_lines : lines_of (10 ∷ 97 ∷ 10 ∷ 98 ∷ []) ≡ [] ∷ codes "a" ∷ codes "b" ∷ []
two_lines = refl

-- no line stands behind the last line feed
last_feed : lines_of (97 ∷ 10 ∷ []) ≡ codes "a" ∷ []
last_feed = refl

empty_last_line : lines_of (97 ∷ 10 ∷ 10 ∷ []) ≡ codes "a" ∷ [] ∷ []
empty_last_line = refl

no_lines : lines_of [] ≡ []
no_lines = refl

-- a carriage return stays in the line, and parts fields
carriage_return : lines_of (97 ∷ 13 ∷ 10 ∷ []) ≡ (97 ∷ 13 ∷ []) ∷ []
carriage_return = refl

blanks : fields_of (97 ∷ 13 ∷ 98 ∷ 9 ∷ 32 ∷ 99 ∷ []) ≡ codes "a" ∷ codes "b" ∷ codes "c" ∷ []
blanks = refl

three_fields : fields_of (codes " UP  b x ") ≡ codes "UP" ∷ codes "b" ∷ codes "x" ∷ []
three_fields = refl

long_line : fields_of (codes "  x  cost  -3 cap 2 y cost") ≡ codes "x" ∷ codes "cost" ∷ codes "-3" ∷ codes "cap" ∷ codes "2" ∷ codes "y" ∷ codes "cost" ∷ []
long_line = refl

comment : is_read (codes "* ROWS") ≡ false
comment = refl

-- a star that isn't the first byte is no comment
later_star : is_read (codes " * ROWS") ≡ true
later_star = refl

blank_line : is_read (codes "  ") ≡ false
blank_line = refl

listed : is_one_of (codes "LO" ∷ codes "UP" ∷ []) (codes "UP") ≡ true
listed = refl

-- a word is compared whole
unlisted : is_one_of (codes "LO" ∷ codes "UP" ∷ []) (codes "U") ≡ false
unlisted = refl

last_word : last_of (codes "LO" ∷ codes "UP" ∷ []) ≡ Some (codes "UP")
last_word = refl

written : line (codes "a" ∷ codes "b" ∷ []) ≡ 97 ∷ 32 ∷ 98 ∷ 10 ∷ []
written = refl
