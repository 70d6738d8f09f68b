-- How a header, or a data line of OBJSENSE, continues what the lines have said.
use Rattle.std.proofs.Common.{◌≡◌, ◌∙◌, ap, sym, subst, ℕ, ◌<◌, Bool, true, false, ◌||◌, ◌&&◌, not, nat_eq, nat_lt, List, [], ◌∷◌, ◌++◌, map, length, Option, Some, None, refl, arith, suc, append-nil, get_or, drop, take, Bor, ◌-◌}
use Rattle.std.specs.Prelude.{filter_map, bytes_eq, is_none, is_some, if◌then◌else◌, codes, slice_index_or}
use Rattle.std.specs.List.{list_any, list_all, cons_option}
use Rattle.std.proofs.lemmas.Bool.{ne_eqb, lt-ltb, true≢false, and_parts}
use Rattle.std.proofs.lemmas.Slice.Eq.{bytes_eq-Decides}
use Rattle.std.proofs.lemmas.List.{map-append, take_all}
use Rattle.std.proofs.lemmas.Bool.Decides.{same_from_decides}
use Rattle.int_model.specs.declared.model.Direction.{Direction}
use Rattle.int_model.specs.declared.model.Direction.TheVariants.{Min, Max}
use Rattle.mps_reader.specs.MpsLines.{Line, field, headers_of, is_one_of, last_of}
use Rattle.mps_reader.specs.MpsRules.{may_follow, lacks_direction, header_kind, direction_kind, direction_words, is_direction, is_maximum}
use Rattle.mps_reader.specs.Sections.{word_of, words_of}
use Rattle.mps_reader.specs.Openings.{HeadersAgree, direction_of, header_words, GivesDirection, RefusesDirection}
use Rattle.mps_reader.specs.TakenLines.{IsHeaderWith, IsDataWith}
use Rattle.mps_reader.specs.declared.header.Section.{Section}
use Rattle.mps_reader.specs.declared.header.Headers.{Headers}
use Rattle.mps_reader.specs.declared.MpsKind.TheVariants as kind
use Rattle.mps_reader.proofs.HeaderLemmas.{list_any-map}

pub bytes_eq-refl : (w : List ℕ) → bytes_eq w w ≡ true
bytes_eq-refl w = (bytes_eq-Decides w w).1 refl

pub or-true : (b : Bool) → (b || true) ≡ true
or-true true = refl
or-true false = refl

pub or-false : (b : Bool) → (b || false) ≡ b
or-false true = refl
or-false false = refl

cons_option-append : {X : Type 0} (o : Option X) (xs ys : List X) → cons_option o (xs ++ ys) ≡ cons_option o xs ++ ys
cons_option-append None xs ys = refl
cons_option-append (Some x) xs ys = refl

pub filter_map-append : {X Y : Type 0} (f : X → Option Y) (xs ys : List X) → filter_map f (xs ++ ys) ≡ filter_map f xs ++ filter_map f ys
filter_map-append f [] ys = refl
filter_map-append f (x ∷ xs) ys = ap (cons_option (f x)) (filter_map-append f xs ys) ∙ cons_option-append (f x) (filter_map f xs) (filter_map f ys)

one_header : (l : Line) → l.header ≡ true → headers_of (l ∷ []) ≡ l.section ∷ []
one_header l h = rw h refl

no_header : (l : Line) → l.header ≡ false → headers_of (l ∷ []) ≡ []
no_header l h = rw h refl

pub bytes_eq-sym : (a b : List ℕ) → bytes_eq a b ≡ bytes_eq b a
bytes_eq-sym a b = same_from_decides (bytes_eq a b) (bytes_eq b a) (bytes_eq-Decides a b) ((λ e. sym ((bytes_eq-Decides b a).0 e)), (λ e. (bytes_eq-Decides b a).1 (sym e)))

pub or-assoc : (a b c : Bool) → (a || (b || c)) ≡ ((a || b) || c)
or-assoc true b c = refl
or-assoc false b c = refl

pub or-parts : (a b : Bool) → (a || b) ≡ false → (a ≡ false) × (b ≡ false)
or-parts true b e = absurd (true≢false e)
or-parts false b e = (refl, e)

pub list_any-append : {X : Type 0} (p : X → Bool) (xs ys : List X) → list_any p (xs ++ ys) ≡ (list_any p xs || list_any p ys)
list_any-append p [] ys = refl
list_any-append p (x ∷ xs) ys = ap (λ b. p x || b) (list_any-append p xs ys) ∙ or-assoc (p x) (list_any p xs) (list_any p ys)

no_header_words : (section : List ℕ) (rest : List (List ℕ)) → bytes_eq section (codes "OBJSENSE") ≡ false → header_words section rest ≡ []
no_header_words section [] e = refl
no_header_words section (v ∷ more) e = rw e refl

-- fields are the first and the rest
pub first_and_rest : (fields : List (Bor (List ℕ))) (d : Bor (List ℕ)) → 0 < length fields → map (λ f. f.now) fields ≡ (get_or fields 0 d).now ∷ map (λ f. f.now) (take (length fields - 1) (drop 1 fields))
first_and_rest [] d h = absurd (omega arith)
first_and_rest (f ∷ fields) d h =
    let all : length (f ∷ fields) - 1 ≡ length fields = omega arith in
    rw (all, take_all (length fields) fields (omega arith)) refl

pub none_when : {X : Type 0} (o : Option X) → is_some o ≡ false → o ≡ None
none_when None e = refl
none_when (Some x) e = absurd (true≢false e)

pub headers_of-append : (ls ks : List Line) → headers_of (ls ++ ks) ≡ headers_of ls ++ headers_of ks
headers_of-append ls ks = filter_map-append _ ls ks

pub headers_of-header : (ls : List Line) (l : Line) → l.header ≡ true → headers_of (ls ++ l ∷ []) ≡ headers_of ls ++ l.section ∷ []
headers_of-header ls l h = headers_of-append ls (l ∷ []) ∙ ap (λ r. headers_of ls ++ r) (one_header l h)

pub headers_of-data : (ls : List Line) (l : Line) → l.header ≡ false → headers_of (ls ++ l ∷ []) ≡ headers_of ls
headers_of-data ls l h = headers_of-append ls (l ∷ []) ∙ ap (λ r. headers_of ls ++ r) (no_header l h) ∙ append-nil (headers_of ls)

pub last_in : (words : List (List ℕ)) (w : List ℕ) → last_of words ≡ Some w → is_one_of words w ≡ true
last_in [] w h = cc
last_in (v ∷ []) w h = let e : v ≡ w = cc in rw (e, bytes_eq-refl w) refl
last_in (v ∷ u ∷ words) w h = ap (λ b. bytes_eq w v || b) (last_in (u ∷ words) w h) ∙ or-true (bytes_eq w v)

pub none_of : (words : List (List ℕ)) → is_none (direction_of words) ≡ nat_eq (length words) 0
none_of [] = refl
none_of (w ∷ words) = sym (ne_eqb (suc (length words)) 0 (λ e. omega arith))

pub lacks_same : (h : Headers) (earlier : List Line) → HeadersAgree h earlier → (list_any (λ s. bytes_eq (codes "OBJSENSE") (word_of s)) h.seen.items && is_none h.direction) ≡ lacks_direction earlier
lacks_same h earlier a =
    let one : list_any (λ s. bytes_eq (codes "OBJSENSE") (word_of s)) h.seen.items ≡ is_one_of (headers_of earlier) (codes "OBJSENSE") =
    sym (list_any-map (bytes_eq (codes "OBJSENSE")) word_of h.seen.items) ∙ ap (list_any (bytes_eq (codes "OBJSENSE"))) a.seen in
    let two : is_none h.direction ≡ nat_eq (length (direction_words earlier)) 0 = ap is_none a.direction ∙ none_of (direction_words earlier) in
    rw (one, two) refl

pub header_lacks : (earlier : List Line) (l : Line) → lacks_direction earlier ≡ true → header_kind earlier l ≡ Some kind.Section
header_lacks earlier l e = rw (e, or-true) refl

-- ---- words of the direction

step : (b h n : Bool) (u v : List ℕ) (xs ys : List (List ℕ)) → (if b then (if h then (if n then u ∷ (xs ++ ys) else (xs ++ ys)) else v ∷ (xs ++ ys)) else (xs ++ ys)) ≡ (if b then (if h then (if n then u ∷ xs else xs) else v ∷ xs) else xs) ++ ys
step true true true u v xs ys = refl
step true true false u v xs ys = refl
step true false n u v xs ys = refl
step false h n u v xs ys = refl

pub direction_words-append : (ls ks : List Line) → direction_words (ls ++ ks) ≡ direction_words ls ++ direction_words ks
direction_words-append [] ks = refl
direction_words-append (l ∷ ls) ks = rw (direction_words-append ls ks) (step (bytes_eq l.section (codes "OBJSENSE")) l.header (nat_lt 1 (length l.fields)) (field 1 l) (field 0 l) (direction_words ls) (direction_words ks))

-- what a data line of OBJSENSE adds
data_word : (l : Line) → l.header ≡ false → l.section ≡ codes "OBJSENSE" → direction_words (l ∷ []) ≡ field 0 l ∷ []
data_word l h s = rw (s, h) refl

none_words : (words : List (List ℕ)) → direction_of words ≡ None → words ≡ []
none_words [] e = refl
none_words (w ∷ words) e = cc

some_words : (words : List (List ℕ)) → is_none (direction_of words) ≡ false → nat_lt 0 (length words) ≡ true
some_words [] e = cc
some_words (w ∷ words) e = lt-ltb 0 (suc (length words)) (omega arith)

pub direction_taken : (h new : Headers) (earlier : List Line) (l : Line) (w : List ℕ) (words : List (List ℕ)) → HeadersAgree h earlier → IsDataWith (codes "OBJSENSE") l words → last_of (headers_of earlier) ≡ Some (codes "OBJSENSE") → h.direction ≡ None → field 0 l ≡ w → is_direction w ≡ true → new.seen ≡ h.seen → new.direction ≡ Some (if is_maximum w then Max else Min) → (direction_kind earlier l ≡ None) × HeadersAgree new (earlier ++ l ∷ [])
direction_taken h new earlier l w words a d last none here good seen given =
    let empty : direction_words earlier ≡ [] = none_words (direction_words earlier) (sym a.direction ∙ none) in
    let now : direction_words (earlier ++ l ∷ []) ≡ w ∷ [] = direction_words-append earlier (l ∷ []) ∙ ap (λ r. r ++ direction_words (l ∷ [])) empty ∙ data_word l d.header d.section ∙ ap (λ v. v ∷ []) here in
    let same : headers_of (earlier ++ l ∷ []) ≡ headers_of earlier = headers_of-data earlier l d.header in
    let fine : is_direction (field 0 l) ≡ true = ap is_direction here ∙ good in (
      rw (empty, fine) refl,
      record {
        seen = ap (λ v. words_of v.items) seen ∙ a.seen ∙ sym same;
        direction = given ∙ ap (λ b. Some (if b then Max else Min)) (sym (or-false (is_maximum w))) ∙ ap direction_of (sym now);
        asked = λ no. absurd (true≢false (sym (last_in (headers_of earlier) (codes "OBJSENSE") last) ∙ ap (λ r. is_one_of r (codes "OBJSENSE")) (sym same) ∙ no));
      },
    )

pub direction_refused : (earlier : List Line) (l : Line) → direction_words earlier ≡ [] → is_direction (field 0 l) ≡ false → direction_kind earlier l ≡ Some kind.Fields
direction_refused earlier l e bad = rw (e, bad) refl

-- ---- a header

all_names : (hs : List (List ℕ)) → list_all (bytes_eq (codes "NAME")) hs ≡ true → is_one_of hs (codes "OBJSENSE") ≡ false
all_names [] e = refl
all_names (x ∷ hs) e =
    let parts = and_parts (bytes_eq (codes "NAME") x) (list_all (bytes_eq (codes "NAME")) hs) e in
    let same : codes "NAME" ≡ x = (bytes_eq-Decides (codes "NAME") x).0 parts.0 in
    rw (← same, all_names hs parts.1) refl

pub follows_names : (hs : List (List ℕ)) → may_follow hs (codes "OBJSENSE") ≡ true → is_one_of hs (codes "OBJSENSE") ≡ false
follows_names hs h = all_names hs (simp or-false at h)

direction_b : (b : Bool) (v : List ℕ) (kept d : Option Direction) (before : List (List ℕ)) → kept ≡ direction_of before → (b ≡ true → before ≡ []) → GivesDirection kept (if b then v ∷ [] else []) d → d ≡ direction_of (before ++ (if b then v ∷ [] else []))
direction_b true v kept d before k first g = g.1 ∙ ap (λ b. Some (if b then Max else Min)) (sym (or-false (is_maximum v))) ∙ ap (λ r. direction_of (r ++ v ∷ [])) (sym (first refl))
direction_b false v kept d before k first g = g ∙ k ∙ ap direction_of (sym (append-nil before))

pub direction_then : (section : List ℕ) (rest : List (List ℕ)) (kept d : Option Direction) (before : List (List ℕ)) → kept ≡ direction_of before → (bytes_eq section (codes "OBJSENSE") ≡ true → before ≡ []) → GivesDirection kept (header_words section rest) d → d ≡ direction_of (before ++ header_words section rest)
direction_then section [] kept d before k first g = g ∙ k ∙ ap direction_of (sym (append-nil before))
direction_then section (v ∷ more) kept d before k first g = direction_b (bytes_eq section (codes "OBJSENSE")) v kept d before k first g

no_third : (b x : Bool) → (b && false && x) ≡ false
no_third true x = refl
no_third false x = refl

third_b : (b : Bool) (v : List ℕ) (kept d : Option Direction) → GivesDirection kept (if b then v ∷ [] else []) d → (b && true && not (is_direction v)) ≡ false
third_b true v kept d g = rw g.0 refl
third_b false v kept d g = refl

pub third : (l : Line) (w : List ℕ) (rest : List (List ℕ)) (kept d : Option Direction) → l.fields ≡ w ∷ rest → GivesDirection kept (header_words l.section rest) d → (bytes_eq l.section (codes "OBJSENSE") && nat_lt 1 (length l.fields) && not (is_direction (field 1 l))) ≡ false
third l w [] kept d f g = rw f (no_third (bytes_eq l.section (codes "OBJSENSE")) _)
third l w (v ∷ more) kept d f g =
    let two : nat_lt 1 (length (w ∷ v ∷ more)) ≡ true = lt-ltb 1 (length (w ∷ v ∷ more)) (omega arith) in
    rw (f, two) (third_b (bytes_eq l.section (codes "OBJSENSE")) v kept d g)

refused_b : (b : Bool) (v : List ℕ) → RefusesDirection (if b then v ∷ [] else []) → (b && true && not (is_direction v)) ≡ true
refused_b true v g = rw g refl
refused_b false v g = absurd g

third_refused : (l : Line) (w : List ℕ) (rest : List (List ℕ)) → l.fields ≡ w ∷ rest → RefusesDirection (header_words l.section rest) → (bytes_eq l.section (codes "OBJSENSE") && nat_lt 1 (length l.fields) && not (is_direction (field 1 l))) ≡ true
third_refused l w [] f g = absurd g
third_refused l w (v ∷ more) f g =
    let two : nat_lt 1 (length (w ∷ v ∷ more)) ≡ true = lt-ltb 1 (length (w ∷ v ∷ more)) (omega arith) in
    rw (f, two) (refused_b (bytes_eq l.section (codes "OBJSENSE")) v g)

same_if : (b : Bool) (words : List (List ℕ)) → (if b then words else words) ≡ words
same_if true words = refl
same_if false words = refl

pub header_adds : (l : Line) (w : List ℕ) (rest : List (List ℕ)) → l.header ≡ true → l.fields ≡ w ∷ rest → direction_words (l ∷ []) ≡ header_words l.section rest
header_adds l w [] h f = rw (h, f) (same_if (bytes_eq l.section (codes "OBJSENSE")) [])
header_adds l w (v ∷ more) h f =
    let two : nat_lt 1 (length (w ∷ v ∷ more)) ≡ true = lt-ltb 1 (length (w ∷ v ∷ more)) (omega arith) in
    rw (h, f, two) refl

pub header_direction_refused : (h : Headers) (earlier : List Line) (l : Line) (w : List ℕ) (rest : List (List ℕ)) (s : Section) → HeadersAgree h earlier → IsHeaderWith l (w ∷ rest) → lacks_direction earlier ≡ false → word_of s ≡ w → may_follow (words_of h.seen.items) w ≡ true → RefusesDirection (header_words (word_of s) rest) → header_kind earlier l ≡ Some kind.Fields
header_direction_refused h earlier l w rest s a is lacks named follows g =
    let here : l.section ≡ w = is.section ∙ ap (λ fs. slice_index_or fs 0 []) is.fields in
    let may : may_follow (headers_of earlier) l.section ≡ true = ap (may_follow (headers_of earlier)) here ∙ ap (λ hs. may_follow hs w) (sym a.seen) ∙ follows in
    let bad : RefusesDirection (header_words l.section rest) = subst (λ (x : List ℕ). RefusesDirection (header_words x rest)) (named ∙ sym here) g in
    rw (may, lacks, third_refused l w rest is.fields bad) refl

pub entered : (h new : Headers) (earlier : List Line) (l : Line) (w : List ℕ) (rest : List (List ℕ)) (s : Section) → HeadersAgree h earlier → IsHeaderWith l (w ∷ rest) → lacks_direction earlier ≡ false → word_of s ≡ w → may_follow (words_of h.seen.items) w ≡ true → GivesDirection h.direction (header_words (word_of s) rest) new.direction → new.seen.items ≡ h.seen.items ++ s ∷ [] → (header_kind earlier l ≡ None) × (word_of s ≡ l.section) × HeadersAgree new (earlier ++ l ∷ [])
entered h new earlier l w rest s a is lacks named follows g seen =
    let here : l.section ≡ w = is.section ∙ ap (λ fs. slice_index_or fs 0 []) is.fields in
    let may : may_follow (headers_of earlier) l.section ≡ true = ap (may_follow (headers_of earlier)) here ∙ ap (λ hs. may_follow hs w) (sym a.seen) ∙ follows in
    let good : GivesDirection h.direction (header_words l.section rest) new.direction = subst (λ (x : List ℕ). GivesDirection h.direction (header_words x rest) new.direction) (named ∙ sym here) g in
    let adds : direction_words (earlier ++ l ∷ []) ≡ direction_words earlier ++ header_words l.section rest = direction_words-append earlier (l ∷ []) ∙ ap (λ r. direction_words earlier ++ r) (header_adds l w rest is.header is.fields) in
    let first : bytes_eq l.section (codes "OBJSENSE") ≡ true → direction_words earlier ≡ [] =
    λ e. a.asked (follows_names (headers_of earlier) (ap (may_follow (headers_of earlier)) (sym ((bytes_eq-Decides l.section (codes "OBJSENSE")).0 e)) ∙ may)) in (
      rw (may, lacks, third l w rest h.direction new.direction is.fields good) refl,
      named ∙ sym here,
      record {
        seen = ap words_of seen ∙ map-append word_of h.seen.items (s ∷ []) ∙ ap (λ r. r ++ word_of s ∷ []) a.seen ∙ ap (λ n. headers_of earlier ++ n ∷ []) (named ∙ sym here) ∙ sym (headers_of-header earlier l is.header);
        direction = direction_then l.section rest h.direction new.direction (direction_words earlier) a.direction first good ∙ ap direction_of (sym adds);
        asked = λ no.
            let parts = or-parts (is_one_of (headers_of earlier) (codes "OBJSENSE")) (is_one_of (l.section ∷ []) (codes "OBJSENSE")) (sym (list_any-append (bytes_eq (codes "OBJSENSE")) (headers_of earlier) (l.section ∷ [])) ∙ ap (λ r. is_one_of r (codes "OBJSENSE")) (sym (headers_of-header earlier l is.header)) ∙ no) in
            let other : bytes_eq l.section (codes "OBJSENSE") ≡ false = bytes_eq-sym l.section (codes "OBJSENSE") ∙ sym (or-false (bytes_eq (codes "OBJSENSE") l.section)) ∙ parts.1 in
            adds ∙ ap (λ r. direction_words earlier ++ r) (no_header_words l.section rest other) ∙ append-nil (direction_words earlier) ∙ a.asked parts.0;
      },
    )
