-- How long the text of a log is at most.
use Rattle.std.proofs.Common.{◌≡◌, ◌∙◌, ap, sym, subst, refl, ℕ, zero, suc, ◌+◌, ◌*◌, ◌^◌, ◌<◌, ◌≤◌, ℤ, pos, negsuc, unsigned_abs, Bool, true, ◌&&◌, nat_lt, nat_le, nat_eq, List, [], ◌∷◌, ◌++◌, length, map, Some, None, arith, length-append}
use Rattle.std.specs.Prelude.{flat_map, codes, decimal}
use Rattle.std.specs.List.{list_all, join_with_byte}
use Rattle.std.proofs.lemmas.Fmt.{length-decimal-le, length_signed_le}
use Rattle.std.proofs.lemmas.Int.{ints}
use Rattle.num_text.specs.NumberText.{integer_text}
use Rattle.num_text.specs.Words.{line}
use Rattle.tighten.specs.declared.step.Step.{Step}
use Rattle.tighten.specs.declared.step.RowEnd.{RowEnd}
use Rattle.tighten.specs.declared.step.RowEnd.TheVariants.{Lower, Upper}
use Rattle.dual_bounds.specs.Vectors.{Entry, Multipliers}
use Rattle.scenario_changes.specs.declared.answer.Answer.{Answer}
use Rattle.scenario_changes.specs.declared.answer.Answer.TheVariants.{Infeasible, Optimal, Limit}
use Rattle.certs.specs.Trees.{is_rising}
use Rattle.certs.specs.declared.cert.Cert.{Cert}
use Rattle.certs.specs.declared.verdict.Verdict.{Verdict}
use Rattle.certs.specs.declared.verdict.Verdict.TheVariants.{Empty, Misses, Farkas, Bound, Point}
use Rattle.certs.specs.declared.tree.Node.{Node}
use Rattle.certs.specs.declared.tree.Node.TheVariants.{Rest, Leaf, Split}
use Rattle.tree_log.specs.Spaced.{spaced}
use Rattle.tree_log.specs.LogText.{claim_words, claim_line, end_word, step_words, steps_line, entry_words, vector_line, verdict_word, verdicts_line, cert_lines, split_line, stay_line, node_lines, first_line, size_line, last_line, log_text}
use Rattle.tree_log.specs.HasText.{is_within, point_has_text, answer_has_text, step_has_text, entry_has_text, vector_has_text, verdict_has_text, cert_has_text, stay_has_text, node_has_text, has_text}
use Rattle.tree_log.specs.declared.file.LogFile.{LogFile}
use Rattle.tree_log.proofs.WordLaws.{both, lt_test, le_test, eq_test, within_abs}
use Rattle.tree_log.proofs.WriterLemmas.{line-spaced}

-- ---- sums

-- so many times the most
abbrev total : ℕ → ℕ → ℕ
total most zero = 0
total most (suc n) = most + total most n

total_up : (most m n : ℕ) → m ≤ n → total most m ≤ total most n
total_up most zero n h = omega arith
total_up most (suc m) zero h = absurd (omega (arith, h))
total_up most (suc m) (suc n) h = omega (arith, total_up most m n (omega (arith, h)))

-- ---- lines

-- each word has at most so many bytes
abbrev AreShort : ℕ → List (List ℕ) → Type 0
AreShort most [] = Unit {0}
AreShort most (w ∷ ws) = (length w ≤ most) × AreShort most ws

short_append : (most : ℕ) (ws vs : List (List ℕ)) → AreShort most ws → AreShort most vs → AreShort most (ws ++ vs)
short_append most [] vs h g = g
short_append most (w ∷ ws) vs h g = (h.0, short_append most ws vs h.1 g)

spaced_short : (most : ℕ) (ws : List (List ℕ)) → AreShort most ws → length (spaced ws) ≤ total (suc most) (length ws)
spaced_short most [] h = omega arith
spaced_short most (w ∷ ws) h = omega (arith, length-append (32 ∷ w) (spaced ws), h.0, spaced_short most ws h.1)

-- a line of words behind a first one
line_short : (most : ℕ) (w : List ℕ) (ws : List (List ℕ)) → AreShort most ws → length (line (w ∷ ws)) ≤ length w + total (suc most) (length ws) + 1
line_short most w ws h =
    let e = ap length (line-spaced w ws) in
    omega (arith, e, length-append (w ++ spaced ws) (10 ∷ []), length-append w (spaced ws), spaced_short most ws h)

-- pieces of at most so many bytes
flat_short : {X : Type 0} (f : X → List ℕ) (p : X → Bool) (most : ℕ) (xs : List X) → ((x : X) → p x ≡ true → length (f x) ≤ most) → list_all p xs ≡ true → length (flat_map f xs) ≤ total most (length xs)
flat_short f p most [] h g = omega arith
flat_short f p most (x ∷ xs) h g =
    let parts = both (p x) (list_all p xs) g in
    omega (arith, length-append (f x) (flat_map f xs), h x parts.0, flat_short f p most xs h parts.1)

map_short : {X : Type 0} (f : X → List ℕ) (p : X → Bool) (most : ℕ) (xs : List X) → ((x : X) → p x ≡ true → length (f x) ≤ most) → list_all p xs ≡ true → AreShort most (map f xs)
map_short f p most [] h g = tt
map_short f p most (x ∷ xs) h g = let parts = both (p x) (list_all p xs) g in (h x parts.0, map_short f p most xs h parts.1)

length_map : {X Y : Type 0} (f : X → Y) (xs : List X) → length (map f xs) ≡ length xs
length_map f [] = refl
length_map f (x ∷ xs) = ap suc (length_map f xs)

-- ---- numbers

digits : (k n : ℕ) → 0 < k → n < 10 ^ k → n < 2 ^ 64 → length (decimal n) ≤ k
digits k n h g l = length-decimal-le k n h g l

signed_short : (k : ℕ) (z : ℤ) → unsigned_abs z + 1 < 10 ^ k → unsigned_abs z < 2 ^ 63 → length (integer_text z) ≤ k + 1
signed_short k (pos n) h g = length_signed_le k (pos n) h g
signed_short k (negsuc n) h g = length_signed_le k (negsuc n) (omega (arith, h)) (omega (arith, g))

-- ---- certificates

step_short : (columns rows : ℕ) (s : Step) → columns ≤ 1000 → rows ≤ 1000 → step_has_text columns rows s ≡ true → AreShort 3 (step_words s)
step_short columns rows s c r h =
    let parts = both (nat_lt s.row rows) (nat_lt s.column columns) h in
    let row : s.row < 1000 = omega (arith, lt_test s.row rows parts.0, r) in
    let column : s.column < 1000 = omega (arith, lt_test s.column columns parts.1, c) in
    (digits 3 s.row (omega arith) row (omega (arith, row)), (digits 3 s.column (omega arith) column (omega (arith, column)), (end_short s.side, tt)))
  where
    end_short : (side : RowEnd) → length (end_word side) ≤ 3
    end_short Lower = omega arith
    end_short Upper = omega arith

steps_short : (columns rows : ℕ) (steps : List Step) → columns ≤ 1000 → rows ≤ 1000 → list_all (step_has_text columns rows) steps ≡ true → AreShort 3 (flat_map step_words steps) × (length (flat_map step_words steps) ≡ 3 * length steps)
steps_short columns rows [] c r h = (tt, refl)
steps_short columns rows (s ∷ steps) c r h =
    let parts = both (step_has_text columns rows s) (list_all (step_has_text columns rows) steps) h in
    let more = steps_short columns rows steps c r parts.1 in
    (short_append 3 (step_words s) (flat_map step_words steps) (step_short columns rows s c r parts.0) more.0, omega (arith, length-append (step_words s) (flat_map step_words steps), more.1))

steps_line-short : (columns rows : ℕ) (steps : List Step) → columns ≤ 1000 → rows ≤ 1000 → length steps ≤ 128 → list_all (step_has_text columns rows) steps ≡ true → length (steps_line steps) ≤ 1600
unfolding steps_line
steps_line-short columns rows steps c r few h =
    let words = steps_short columns rows steps c r h in
    let count : length (decimal (length steps)) ≤ 3 = digits 3 (length steps) (omega arith) (omega (arith, few)) (omega (arith, few)) in
    let up = total_up 4 (length (decimal (length steps) ∷ flat_map step_words steps)) 385 (omega (arith, words.1, few)) in
    omega (arith, line_short 3 (codes "steps") (decimal (length steps) ∷ flat_map step_words steps) (count, words.0), up)

entry_short : (rows : ℕ) (e : Entry) → rows ≤ 1000 → entry_has_text rows e ≡ true → AreShort 14 (entry_words e)
entry_short rows e r h =
    let parts = both (nat_lt e.0 rows && is_within (2 ^ 40) e.1) _ h in
    let more = both (nat_lt e.0 rows) (is_within (2 ^ 40) e.1) parts.0 in
    let row : e.0 < 1000 = omega (arith, lt_test e.0 rows more.0, r) in
    let small : unsigned_abs e.1 ≤ 2 ^ 40 = within_abs (2 ^ 40) e.1 more.1 in
    (digits 14 e.0 (omega arith) (omega (arith, row)) (omega (arith, row)), (signed_short 13 e.1 (omega (arith, small)) (omega (arith, small)), tt))

entries_short : (rows : ℕ) (entries : List Entry) → rows ≤ 1000 → list_all (entry_has_text rows) entries ≡ true → AreShort 14 (flat_map entry_words entries) × (length (flat_map entry_words entries) ≡ 2 * length entries)
entries_short rows [] r h = (tt, refl)
entries_short rows (e ∷ entries) r h =
    let parts = both (entry_has_text rows e) (list_all (entry_has_text rows) entries) h in
    let more = entries_short rows entries r parts.1 in
    (short_append 14 (entry_words e) (flat_map entry_words entries) (entry_short rows e r parts.0) more.0, omega (arith, length-append (entry_words e) (flat_map entry_words entries), more.1))

vector_line-short : (rows : ℕ) (v : Multipliers) → rows ≤ 1000 → vector_has_text rows v ≡ true → length (vector_line v) ≤ 3900
unfolding vector_line
vector_line-short rows v r h =
    let a = both _ (is_rising (map (λ (e : Entry). e.0) v.entries)) h in
    let b = both _ (list_all (entry_has_text rows) v.entries) a.0 in
    let c = both (nat_le v.scale (2 ^ 20)) (nat_le (length v.entries) 128) b.0 in
    let few : length v.entries ≤ 128 = le_test (length v.entries) 128 c.1 in
    let scale : v.scale ≤ 2 ^ 20 = le_test v.scale (2 ^ 20) c.0 in
    let words = entries_short rows v.entries r b.1 in
    let up = total_up 15 (length (decimal v.scale ∷ decimal (length v.entries) ∷ flat_map entry_words v.entries)) 258 (omega (arith, words.1, few)) in
    omega (arith, line_short 14 (codes "vector") (decimal v.scale ∷ decimal (length v.entries) ∷ flat_map entry_words v.entries) (digits 14 v.scale (omega arith) (omega (arith, scale)) (omega (arith, scale)), (digits 14 (length v.entries) (omega arith) (omega (arith, few)) (omega (arith, few)), words.0)), up)

verdict_short : (rows : ℕ) (v : Verdict) → rows ≤ 1000 → verdict_has_text rows v ≡ true → length (verdict_word v) ≤ 4
unfolding verdict_word
verdict_short rows Empty r h = omega arith
verdict_short rows (Misses i) r h = let row : i < 1000 = omega (arith, lt_test i rows h, r) in omega (arith, length-append (codes "m") (decimal i), digits 3 i (omega arith) row (omega (arith, row)))
verdict_short rows (Farkas k) r h = let few : k < 10 = lt_test k 10 h in omega (arith, length-append (codes "f") (decimal k), digits 1 k (omega arith) few (omega (arith, few)))
verdict_short rows (Bound k) r h = let few : k < 10 = lt_test k 10 h in omega (arith, length-append (codes "b") (decimal k), digits 1 k (omega arith) few (omega (arith, few)))
verdict_short rows Point r h = omega arith

verdicts_line-short : (rows : ℕ) (verdicts : List Verdict) → rows ≤ 1000 → length verdicts ≤ 64 → list_all (verdict_has_text rows) verdicts ≡ true → length (verdicts_line verdicts) ≤ 400
unfolding verdicts_line
verdicts_line-short rows verdicts r few h =
    let many : length (map verdict_word verdicts) ≡ length verdicts = length_map verdict_word verdicts in
    let up = total_up 5 (length (map verdict_word verdicts)) 64 (omega (arith, many, few)) in
    omega (arith, line_short 4 (codes "verdicts") (map verdict_word verdicts) (map_short verdict_word (verdict_has_text rows) 4 verdicts (λ v e. verdict_short rows v r e) h), up)

cert_lines-short : (scenarios columns rows : ℕ) (cert : Cert) (verdicts : List Verdict) → scenarios ≤ 64 → columns ≤ 1000 → rows ≤ 1000 → cert_has_text scenarios columns rows cert verdicts ≡ true → length (cert_lines cert verdicts) ≤ 9800
cert_lines-short scenarios columns rows cert verdicts s c r h =
    let a = both _ (list_all (verdict_has_text rows) verdicts) h in
    let b = both _ (nat_le (length verdicts) scenarios) a.0 in
    let d = both _ (nat_lt 0 (length verdicts)) b.0 in
    let e = both _ (list_all (vector_has_text rows) cert.vectors) d.0 in
    let f = both _ (nat_le (length cert.vectors) 2) e.0 in
    let g = both (nat_le (length cert.steps) 128) (list_all (step_has_text columns rows) cert.steps) f.0 in
    let steps = steps_line-short columns rows cert.steps c r (le_test (length cert.steps) 128 g.0) g.1 in
    let two : length cert.vectors ≤ 2 = le_test (length cert.vectors) 2 f.1 in
    let vectors = flat_short vector_line (vector_has_text rows) 3900 cert.vectors (λ v q. vector_line-short rows v r q) e.1 in
    let up = total_up 3900 (length cert.vectors) 2 two in
    let some : length verdicts ≤ scenarios = le_test (length verdicts) scenarios b.1 in
    let last = verdicts_line-short rows verdicts r (omega (arith, some, s)) a.1 in
    let whole : length (cert_lines cert verdicts) ≡ length ((steps_line cert.steps ++ flat_map vector_line cert.vectors) ++ verdicts_line verdicts) = refl in
    omega (arith, whole, length-append (steps_line cert.steps ++ flat_map vector_line cert.vectors) (verdicts_line verdicts), length-append (steps_line cert.steps) (flat_map vector_line cert.vectors), steps, vectors, up, last)

-- ---- nodes

stay_line-short : (scenarios : ℕ) (stay : List ℕ) → scenarios ≤ 64 → length stay ≤ 64 → list_all (λ k. nat_lt k scenarios) stay ≡ true → length (stay_line stay) ≤ 200
unfolding stay_line
stay_line-short scenarios stay s few h =
    let many : length (map decimal stay) ≡ length stay = length_map decimal stay in
    let up = total_up 3 (length (map decimal stay)) 64 (omega (arith, many, few)) in
    omega (arith, line_short 2 (codes "stay") (map decimal stay) (map_short decimal (λ k. nat_lt k scenarios) 2 stay (λ k e. (let below : k < 100 = omega (arith, lt_test k scenarios e, s) in digits 2 k (omega arith) below (omega (arith, below)))) h), up)

-- the first number is at least so great
abbrev Begins : ℕ → List ℕ → Type 0
Begins least [] = Unit {0}
Begins least (k ∷ ks) = least ≤ k

begins_zero : (xs : List ℕ) → Begins 0 xs
begins_zero [] = tt
begins_zero (x ∷ xs) = omega arith

-- a rising list of numbers below n, from a least one on, is short
rising_few : (n least : ℕ) (xs : List ℕ) → Begins least xs → is_rising xs ≡ true → list_all (λ k. nat_lt k n) xs ≡ true → least ≤ n → least + length xs ≤ n
rising_few n least [] b h g l = omega (arith, l)
rising_few n least (x ∷ []) b h g l = let below : x < n = lt_test x n (both (nat_lt x n) true g).0 in omega (arith, below, b)
rising_few n least (x ∷ y ∷ xs) b h g l =
    let parts = both (nat_lt x y) (is_rising (y ∷ xs)) h in
    let all_parts = both (nat_lt x n) (list_all (λ k. nat_lt k n) (y ∷ xs)) g in
    let below : x < n = lt_test x n all_parts.0 in
    let more = rising_few n (suc x) (y ∷ xs) (omega (arith, lt_test x y parts.0)) parts.1 all_parts.1 (omega (arith, below)) in
    omega (arith, more, b)

split_line-short : (child column : ℕ) (v : ℤ) → child < 1000000 → column < 1000 → unsigned_abs v ≤ 10 ^ 6 → length (split_line child column v) ≤ 40
unfolding split_line
split_line-short child column v h g small =
    let up : total 9 3 ≤ 27 = omega arith in
    omega (arith, line_short 8 (codes "split") (decimal child ∷ decimal column ∷ integer_text v ∷ []) (digits 8 child (omega arith) (omega (arith, h)) (omega (arith, h)), (digits 8 column (omega arith) (omega (arith, g)) (omega (arith, g)), (signed_short 7 v (omega (arith, small)) (omega (arith, small)), tt))), up)

node_short : (scenarios columns rows count : ℕ) (node : Node) → scenarios ≤ 64 → columns ≤ 1000 → rows ≤ 1000 → count ≤ 100001 → node_has_text scenarios columns rows count node ≡ true → length (node_lines node) ≤ 10100
unfolding node_lines
node_short scenarios columns rows count Rest s c r n h = omega arith
node_short scenarios columns rows count (Leaf cert verdicts) s c r n h =
    let whole : length (node_lines (Leaf cert verdicts)) ≡ length (line (codes "leaf" ∷ []) ++ cert_lines cert verdicts) = refl in
    omega (arith, whole, length-append (line (codes "leaf" ∷ [])) (cert_lines cert verdicts), cert_lines-short scenarios columns rows cert verdicts s c r h)
node_short scenarios columns rows count (Split cert verdicts stay child column v) s c r n h =
    let a = both _ (cert_has_text scenarios columns rows cert verdicts) h in
    let b = both _ (stay_has_text scenarios stay) a.0 in
    let d = both _ (is_within (10 ^ 6) v) b.0 in
    let e = both _ (nat_lt column columns) d.0 in
    let f = both (nat_lt 0 child) (nat_lt (suc child) count) e.0 in
    let g = both (nat_lt 0 (length stay) && is_rising stay) (list_all (λ k. nat_lt k scenarios) stay) b.1 in
    let few : 0 + length stay ≤ scenarios = rising_few scenarios 0 stay (begins_zero stay) (both (nat_lt 0 (length stay)) (is_rising stay) g.0).1 g.1 (omega arith) in
    let child_below : child < 1000000 = omega (arith, lt_test (suc child) count f.1, n) in
    let column_below : column < 1000 = omega (arith, lt_test column columns e.1, c) in
    let whole : length (node_lines (Split cert verdicts stay child column v)) ≡ length ((split_line child column v ++ stay_line stay) ++ cert_lines cert verdicts) = refl in
    omega (arith, whole, length-append (split_line child column v ++ stay_line stay) (cert_lines cert verdicts), length-append (split_line child column v) (stay_line stay), split_line-short child column v child_below column_below (within_abs (10 ^ 6) v d.1), stay_line-short scenarios stay s (omega (arith, few, s)) g.1, cert_lines-short scenarios columns rows cert verdicts s c r a.1)

-- ---- claims

integers_short : (x : List ℤ) → list_all (is_within (10 ^ 6)) x ≡ true → AreShort 20 (map integer_text x)
integers_short x h = map_short integer_text (is_within (10 ^ 6)) 20 x (λ z e. (let small : unsigned_abs z ≤ 10 ^ 6 = within_abs (10 ^ 6) z e in signed_short 19 z (omega (arith, small)) (omega (arith, small)))) h

value_short : (v : ℤ) → is_within (2 ^ 60) v ≡ true → length (integer_text v) ≤ 20
value_short v h = let small : unsigned_abs v ≤ 2 ^ 60 = within_abs (2 ^ 60) v h in signed_short 19 v (omega (arith, small)) (omega (arith, small))

-- the words of a claim, each of at most 20 bytes, and how many they are
record ShortClaim (a : Answer) : Type 0 where
  words : AreShort 20 (claim_words a)
  few : length (claim_words a) ≤ 1003

claim_short : (columns : ℕ) (a : Answer) → columns ≤ 1000 → answer_has_text columns a ≡ true → ShortClaim a
unfolding claim_words
claim_short columns Infeasible c h = record { words = (omega arith, tt); few = omega arith }
claim_short columns (Optimal x v) c h =
    let a = both (point_has_text columns x) (is_within (2 ^ 60) v) h in
    let b = both (nat_eq (length x) columns) (list_all (is_within (10 ^ 6)) x) a.0 in
    record { words = (omega arith, (value_short v a.1, integers_short x b.1)); few = omega (arith, length_map integer_text x, eq_test (length x) columns b.0, c) }
claim_short columns (Limit None b) c h = record { words = (omega arith, (omega arith, (value_short b h, tt))); few = omega arith }
claim_short columns (Limit (Some (x, v)) b) c h =
    let d = both (point_has_text columns x && is_within (2 ^ 60) v) (is_within (2 ^ 60) b) h in
    let a = both (point_has_text columns x) (is_within (2 ^ 60) v) d.0 in
    let e = both (nat_eq (length x) columns) (list_all (is_within (10 ^ 6)) x) a.0 in
    record { words = (omega arith, (value_short v a.1, (value_short b d.1, integers_short x e.1))); few = omega (arith, length_map integer_text x, eq_test (length x) columns e.0, c) }

claim_line-short : (columns : ℕ) (a : Answer) → columns ≤ 1000 → answer_has_text columns a ≡ true → length (claim_line a) ≤ 22000
unfolding claim_line
claim_line-short columns a c h =
    let s = claim_short columns a c h in
    omega (arith, line_short 20 (codes "claim") (claim_words a) s.words, total_up 21 (length (claim_words a)) 1003 s.few)

-- ---- the whole

total_nodes : (n : ℕ) → total 10100 n ≡ 10100 * n
total_nodes zero = refl
total_nodes (suc n) = omega (arith, total_nodes n)

pub log_short : (f : LogFile) → has_text f ≡ true → length (log_text f) ≤ 1073741824
unfolding log_text first_line size_line last_line
log_short f h =
    let a = both _ (list_all (node_has_text (length f.answers) f.columns f.rows (length f.tree)) f.tree) h in
    let b = both _ (list_all (answer_has_text f.columns) f.answers) a.0 in
    let c = both _ (nat_le (length f.tree) 100001) b.0 in
    let d = both _ (nat_lt 0 (length f.tree)) c.0 in
    let e = both _ (nat_le f.rows 1000) d.0 in
    let g = both _ (nat_le f.columns 1000) e.0 in
    let i = both (nat_lt 0 (length f.answers)) (nat_le (length f.answers) 64) g.0 in
    let scenarios : length f.answers ≤ 64 = le_test (length f.answers) 64 i.1 in
    let columns : f.columns ≤ 1000 = le_test f.columns 1000 g.1 in
    let rows : f.rows ≤ 1000 = le_test f.rows 1000 e.1 in
    let nodes : length f.tree ≤ 100001 = le_test (length f.tree) 100001 c.1 in
    let claims = flat_short claim_line (answer_has_text f.columns) 22000 f.answers (λ x q. claim_line-short f.columns x columns q) b.1 in
    let claims_up = total_up 22000 (length f.answers) 64 scenarios in
    let tree = flat_short node_lines (node_has_text (length f.answers) f.columns f.rows (length f.tree)) 10100 f.tree (λ x q. node_short (length f.answers) f.columns f.rows (length f.tree) x scenarios columns rows nodes q) a.1 in
    let size = line_short 6 (codes "size") (decimal (length f.answers) ∷ decimal f.columns ∷ decimal f.rows ∷ decimal (length f.tree) ∷ []) (digits 6 (length f.answers) (omega arith) (omega (arith, scenarios)) (omega (arith, scenarios)), (digits 6 f.columns (omega arith) (omega (arith, columns)) (omega (arith, columns)), (digits 6 f.rows (omega arith) (omega (arith, rows)) (omega (arith, rows)), (digits 6 (length f.tree) (omega arith) (omega (arith, nodes)) (omega (arith, nodes)), tt)))) in
    let first : List ℕ = line (codes "scenlog" ∷ codes "1" ∷ []) in
    let second : List ℕ = line (codes "size" ∷ decimal (length f.answers) ∷ decimal f.columns ∷ decimal f.rows ∷ decimal (length f.tree) ∷ []) in
    let last : List ℕ = line (codes "end" ∷ []) in
    let one = length-append (((first ++ second) ++ flat_map claim_line f.answers) ++ flat_map node_lines f.tree) last in
    let two = length-append ((first ++ second) ++ flat_map claim_line f.answers) (flat_map node_lines f.tree) in
    let three = length-append (first ++ second) (flat_map claim_line f.answers) in
    let four = length-append first second in
    let short_first : length first ≡ 10 = refl in
    let short_last : length last ≡ 4 = refl in
    let whole : length (log_text f) ≡ length ((((first ++ second) ++ flat_map claim_line f.answers) ++ flat_map node_lines f.tree) ++ last) = refl in
    omega (arith, whole, one, two, three, four, short_first, short_last, size, claims, claims_up, tree, total_nodes (length f.tree), nodes)
