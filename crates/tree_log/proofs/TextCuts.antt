-- The lines and words of a text that is made of them.
use Rattle.std.proofs.Common.{◌≡◌, ◌∙◌, ap, refl, ℕ, ◌<◌, ◌^◌, ℤ, pos, unsigned_abs, Bool, true, false, ◌&&◌, not, cond, nat_lt, nat_eq, List, [], ◌∷◌, ◌++◌, map, arith, append_assoc}
use Rattle.std.specs.Prelude.{decimal, codes, bytes_eq, flat_map}
use Rattle.std.specs.List.{list_all, slice_split, onto_first, join_with_byte}
use Rattle.std.specs.Char.{is_ascii_digit}
use Rattle.std.proofs.lemmas.Bool.Decides.{nat_tests}
use Rattle.num_text.specs.Lines.{is_line_feed}
use Rattle.num_text.specs.Words.{line}
use Rattle.num_text.specs.NumberText.{is_canonical, is_canonical_digits, integer_text}
use Rattle.num_text.proofs.TextLaws.{decimal_text}
use Rattle.tree_log.specs.Logs.{all_but_last, whole_lines}
use Rattle.tree_log.specs.LineWords.{is_space, words_of}
use Rattle.tree_log.proofs.WordLaws.{both}
use Rattle.tree_log.proofs.SourceLaws.{onto_last}
use Rattle.tree_log.proofs.DraftLaws.{Line}

-- ---- bytes that part neither words nor lines

abbrev pub ArePast : List ℕ → Type 0
ArePast [] = Unit {0}
ArePast (b ∷ w) = (32 < b) × ArePast w

past_test : (b : ℕ) → nat_lt 32 b ≡ true → 32 < b
past_test b h = grind (arith, nat_tests)

pub past_by : (w : List ℕ) → list_all (nat_lt 32) w ≡ true → ArePast w
past_by [] h = tt
past_by (b ∷ w) h =
    let parts = both (nat_lt 32 b) (list_all (nat_lt 32) w) h in
    (past_test b parts.0, past_by w parts.1)

digit_past : (b : ℕ) → is_ascii_digit b ≡ true → 32 < b
digit_past b h = grind (arith, nat_tests)

digits_past : (w : List ℕ) → list_all is_ascii_digit w ≡ true → ArePast w
digits_past [] h = tt
digits_past (b ∷ w) h =
    let parts = both (is_ascii_digit b) (list_all is_ascii_digit w) h in
    (digit_past b parts.0, digits_past w parts.1)

canonical_digits_past : (w : List ℕ) → is_canonical_digits w ≡ true → ArePast w
canonical_digits_past [] h = tt
canonical_digits_past (b ∷ []) h = (digit_past b h, tt)
canonical_digits_past (b ∷ c ∷ w) h = digits_past (b ∷ c ∷ w) (both (not (nat_eq b 48)) (list_all is_ascii_digit (b ∷ c ∷ w)) h).1

minus_past : (b : ℕ) → nat_eq b 45 ≡ true → 32 < b
minus_past b h = grind (arith, nat_tests)

signed_past : (b : ℕ) (w : List ℕ) (t : Bool) → nat_eq b 45 ≡ t → cond t (is_canonical_digits w && not (bytes_eq w (codes "0"))) (is_canonical_digits (b ∷ w)) ≡ true → ArePast (b ∷ w)
signed_past b w true e h = (minus_past b e, canonical_digits_past w (both (is_canonical_digits w) (not (bytes_eq w (codes "0"))) h).0)
signed_past b w false e h = canonical_digits_past (b ∷ w) h

canonical_past : (w : List ℕ) → is_canonical w ≡ true → ArePast w
canonical_past [] h = tt
canonical_past (b ∷ w) h = signed_past b w (nat_eq b 45) refl h

pub integer_past : (z : ℤ) → unsigned_abs z < 2 ^ 64 → ArePast (integer_text z)
integer_past z h = canonical_past (integer_text z) (decimal_text z h).canonical

pub decimal_past : (n : ℕ) → n < 2 ^ 64 → ArePast (decimal n)
decimal_past n h = integer_past (pos n) h

-- ---- words of a line

abbrev pub AllPast : Line → Type 0
AllPast [] = Unit {0}
AllPast (w ∷ ws) = ArePast w × AllPast ws

no_space : (b : ℕ) → 32 < b → is_space b ≡ false
no_space b h = grind (arith, nat_tests)

no_feed : (b : ℕ) → 32 < b → is_line_feed b ≡ false
no_feed b h = grind (arith, nat_tests)

cut_word : (w rest : List ℕ) → ArePast w → words_of (w ++ 32 ∷ rest) ≡ w ∷ words_of rest
cut_word [] rest h = refl
cut_word (b ∷ w) rest h =
    ap (λ t. cond t ([] ∷ words_of (w ++ 32 ∷ rest)) (onto_first b (words_of (w ++ 32 ∷ rest)))) (no_space b h.0)
    ∙ ap (onto_first b) (cut_word w rest h.1)

one_word : (w : List ℕ) → ArePast w → words_of w ≡ w ∷ []
one_word [] h = refl
one_word (b ∷ w) h = ap (λ t. cond t ([] ∷ words_of w) (onto_first b (words_of w))) (no_space b h.0) ∙ ap (onto_first b) (one_word w h.1)

pub words_back : (w : List ℕ) (ws : Line) → AllPast (w ∷ ws) → words_of (join_with_byte 32 (w ∷ ws)) ≡ w ∷ ws
words_back w [] h = one_word w h.0
words_back w (v ∷ ws) h = cut_word w (join_with_byte 32 (v ∷ ws)) h.0 ∙ ap (λ (l : Line). w ∷ l) (words_back v ws h.1)

-- ---- lines of a text

abbrev LacksFeed : List ℕ → Type 0
LacksFeed [] = Unit {0}
LacksFeed (b ∷ l) = (is_line_feed b ≡ false) × LacksFeed l

lacks_append : (k l : List ℕ) → LacksFeed k → LacksFeed l → LacksFeed (k ++ l)
lacks_append [] l h i = i
lacks_append (b ∷ k) l h i = (h.0, lacks_append k l h.1 i)

word_lacks : (w : List ℕ) → ArePast w → LacksFeed w
word_lacks [] h = tt
word_lacks (b ∷ w) h = (no_feed b h.0, word_lacks w h.1)

join_lacks : (ws : Line) → AllPast ws → LacksFeed (join_with_byte 32 ws)
join_lacks [] h = tt
join_lacks (w ∷ []) h = word_lacks w h.0
join_lacks (w ∷ v ∷ ws) h = lacks_append w (32 ∷ join_with_byte 32 (v ∷ ws)) (word_lacks w h.0) (refl, join_lacks (v ∷ ws) h.1)

split_feed : (l rest : List ℕ) → LacksFeed l → slice_split is_line_feed (l ++ 10 ∷ rest) ≡ l ∷ slice_split is_line_feed rest
split_feed [] rest h = refl
split_feed (b ∷ l) rest h =
    ap (λ t. cond t ([] ∷ slice_split is_line_feed (l ++ 10 ∷ rest)) (onto_first b (slice_split is_line_feed (l ++ 10 ∷ rest)))) h.0
    ∙ ap (onto_first b) (split_feed l rest h.1)

cut_feed : (l rest : List ℕ) → LacksFeed l → whole_lines (l ++ 10 ∷ rest) ≡ l ∷ whole_lines rest
cut_feed l rest h = ap all_but_last (split_feed l rest h) ∙ onto_last is_line_feed l rest

-- lines with a word or more
abbrev pub IsLine : Line → Type 0
IsLine [] = ⊥
IsLine (w ∷ ws) = AllPast (w ∷ ws)

abbrev pub AreLines : List Line → Type 0
AreLines [] = Unit {0}
AreLines (ws ∷ wss) = IsLine ws × AreLines wss

line_past : (ws : Line) → IsLine ws → AllPast ws
line_past [] h = absurd h
line_past (w ∷ ws) h = h

line_back : (ws : Line) → IsLine ws → words_of (join_with_byte 32 ws) ≡ ws
line_back [] h = absurd h
line_back (w ∷ ws) h = words_back w ws h

abbrev pub joined_lines : List Line → List (List ℕ)
joined_lines wss = map (join_with_byte 32) wss

pub lines_back : (wss : List Line) → AreLines wss → whole_lines (flat_map line wss) ≡ joined_lines wss
lines_back [] h = refl
lines_back (ws ∷ wss) h =
    ap whole_lines (append_assoc (join_with_byte 32 ws) (10 ∷ []) (flat_map line wss))
    ∙ cut_feed (join_with_byte 32 ws) (flat_map line wss) (join_lacks ws (line_past ws h.0))
    ∙ ap (λ (l : List (List ℕ)). join_with_byte 32 ws ∷ l) (lines_back wss h.1)

pub all_words_back : (wss : List Line) → AreLines wss → map words_of (joined_lines wss) ≡ wss
all_words_back [] h = refl
all_words_back (ws ∷ wss) h = rw (line_back ws h.0, all_words_back wss h.1) refl

pub are_lines_append : (a b : List Line) → AreLines a → AreLines b → AreLines (a ++ b)
are_lines_append [] b h i = i
are_lines_append (ws ∷ a) b h i = (h.0, are_lines_append a b h.1 i)

pub all_past_append : (a b : Line) → AllPast a → AllPast b → AllPast (a ++ b)
all_past_append [] b h i = i
all_past_append (w ∷ a) b h i = (h.0, all_past_append a b h.1 i)

pub all_past_map : {X : Type 0} (f : X → List ℕ) (p : X → Bool) → ((x : X) → p x ≡ true → ArePast (f x)) → (xs : List X) → list_all p xs ≡ true → AllPast (map f xs)
all_past_map f p each [] h = tt
all_past_map f p each (x ∷ xs) h =
    let parts = both (p x) (list_all p xs) h in
    (each x parts.0, all_past_map f p each xs parts.1)

pub all_past_flat : {X : Type 0} (f : X → Line) (p : X → Bool) → ((x : X) → p x ≡ true → AllPast (f x)) → (xs : List X) → list_all p xs ≡ true → AllPast (flat_map f xs)
all_past_flat f p each [] h = tt
all_past_flat f p each (x ∷ xs) h =
    let parts = both (p x) (list_all p xs) h in
    all_past_append (f x) (flat_map f xs) (each x parts.0) (all_past_flat f p each xs parts.1)

pub are_lines_map : {X : Type 0} (f : X → Line) (p : X → Bool) → ((x : X) → p x ≡ true → IsLine (f x)) → (xs : List X) → list_all p xs ≡ true → AreLines (map f xs)
are_lines_map f p each [] h = tt
are_lines_map f p each (x ∷ xs) h =
    let parts = both (p x) (list_all p xs) h in
    (each x parts.0, are_lines_map f p each xs parts.1)

pub are_lines_flat : {X : Type 0} (f : X → List Line) (p : X → Bool) → ((x : X) → p x ≡ true → AreLines (f x)) → (xs : List X) → list_all p xs ≡ true → AreLines (flat_map f xs)
are_lines_flat f p each [] h = tt
are_lines_flat f p each (x ∷ xs) h =
    let parts = both (p x) (list_all p xs) h in
    are_lines_append (f x) (flat_map f xs) (each x parts.0) (are_lines_flat f p each xs parts.1)
