-- What the writer appends, piece by piece.
use Rattle.std.proofs.Common.{◌≡◌, ◌∙◌, ap, sym, refl, ℕ, ◌+◌, ◌<◌, ◌≤◌, List, [], ◌∷◌, ◌++◌, length, drop, get_or, slice_get, Some, map, add-one, drop-cons, append_assoc}
use Rattle.std.specs.Prelude.{flat_map}
use Rattle.std.specs.List.{join_with_byte}
use Rattle.std.proofs.lemmas.List.{append-nil, drop_all}
use Rattle.std.proofs.lemmas.List.Folds.{flat_map-map}
use Rattle.std.proofs.lemmas.Grind.{flat_map-append}
use Rattle.std.proofs.lemmas.Option.{get_or_from_slice_get, slice_get_within}
use Rattle.num_text.specs.Words.{line}
use Rattle.tree_log.specs.Spaced.{spaced}

-- ---- lines

-- the first word stands alone, and each further one behind a space
pub joined : (w : List ℕ) (ws : List (List ℕ)) → join_with_byte 32 (w ∷ ws) ≡ w ++ spaced ws
joined w [] = sym (append-nil w)
joined w (v ∷ ws) = ap (λ l. w ++ (32 ∷ l)) (joined v ws)

pub line-spaced : (w : List ℕ) (ws : List (List ℕ)) → line (w ∷ ws) ≡ (w ++ spaced ws) ++ 10 ∷ []
line-spaced w ws = ap (λ l. l ++ 10 ∷ []) (joined w ws)

-- a line that was written in three parts
pub line_written : (old w : List ℕ) (ws : List (List ℕ)) (a b c : List ℕ) → a ≡ old ++ w → b ≡ a ++ spaced ws → c ≡ b ++ 10 ∷ [] → c ≡ old ++ line (w ∷ ws)
line_written old w ws a b c e f g =
    g ∙ ap (λ l. l ++ 10 ∷ []) (f ∙ ap (λ l. l ++ spaced ws) e ∙ append_assoc old w (spaced ws))
    ∙ append_assoc old (w ++ spaced ws) (10 ∷ [])
    ∙ ap (λ l. old ++ l) (sym (line-spaced w ws))

-- ---- words

pub spaced-map : {X : Type 0} (f : X → List ℕ) (xs : List X) → spaced (map f xs) ≡ flat_map (λ x. 32 ∷ f x) xs
spaced-map f xs = flat_map-map (λ (w : List ℕ). 32 ∷ w) f xs

pub spaced-flat_map : {X : Type 0} (f : X → List (List ℕ)) (xs : List X) → spaced (flat_map f xs) ≡ flat_map (λ x. spaced (f x)) xs
spaced-flat_map f [] = refl
spaced-flat_map f (x ∷ xs) = flat_map-append (λ (w : List ℕ). 32 ∷ w) (f x) (flat_map f xs) ∙ ap (λ l. spaced (f x) ++ l) (spaced-flat_map f xs)

-- one word more, before others
pub word_more : (old w : List ℕ) (ws : List (List ℕ)) (a b : List ℕ) → a ≡ old ++ 32 ∷ w → b ≡ a ++ spaced ws → b ≡ old ++ spaced (w ∷ ws)
word_more old w ws a b e f = f ∙ ap (λ l. l ++ spaced ws) e ∙ append_assoc old (32 ∷ w) (spaced ws)

-- ---- loops

pub flat_map-drop : {X : Type 0} (f : X → List ℕ) (xs : List X) (i : ℕ) (d : X) → i < length xs → flat_map f (drop i xs) ≡ f (get_or xs i d) ++ flat_map f (drop (i + 1) xs)
flat_map-drop f xs i d h = rw (add-one, drop-cons xs i d) refl

pub one_more : {X : Type 0} (f : X → List ℕ) (xs : List X) (i : ℕ) (d : X) (start out new : List ℕ) → i < length xs → start ++ flat_map f xs ≡ out ++ flat_map f (drop i xs) → new ≡ out ++ f (get_or xs i d) → start ++ flat_map f xs ≡ new ++ flat_map f (drop (i + 1) xs)
one_more f xs i d start out new h before after =
    before
    ∙ ap (λ l. out ++ l) (flat_map-drop f xs i d h)
    ∙ sym (append_assoc out (f (get_or xs i d)) (flat_map f (drop (i + 1) xs)))
    ∙ ap (λ l. l ++ flat_map f (drop (i + 1) xs)) (sym after)

pub one_more_got : {X : Type 0} (f : X → List ℕ) (xs : List X) (i : ℕ) (x : X) (start out new : List ℕ) → slice_get xs i ≡ Some x → start ++ flat_map f xs ≡ out ++ flat_map f (drop i xs) → new ≡ out ++ f x → start ++ flat_map f xs ≡ new ++ flat_map f (drop (i + 1) xs)
one_more_got f xs i x start out new at before after =
    one_more f xs i x start out new (slice_get_within xs i x at) before (after ∙ ap (λ y. out ++ f y) (sym (get_or_from_slice_get xs i x x at)))

pub all_done : {X : Type 0} (f : X → List ℕ) (xs : List X) (i : ℕ) (start out : List ℕ) → length xs ≤ i → start ++ flat_map f xs ≡ out ++ flat_map f (drop i xs) → out ≡ start ++ flat_map f xs
all_done f xs i start out h e = sym (e ∙ ap (λ l. out ++ flat_map f l) (drop_all i xs h) ∙ append-nil out)

pub appended_twice : (o a b n m : List ℕ) → n ≡ o ++ a → m ≡ n ++ b → m ≡ o ++ (a ++ b)
appended_twice o a b n m e f = f ∙ ap (λ l. l ++ b) e ∙ append_assoc o a b

pub appended_thrice : (o a b c n m k : List ℕ) → n ≡ o ++ a → m ≡ n ++ b → k ≡ m ++ c → k ≡ o ++ (a ++ b ++ c)
appended_thrice o a b c n m k e f g = g ∙ ap (λ l. l ++ c) (appended_twice o a b n m e f) ∙ append_assoc o (a ++ b) c

-- ---- the same words, said of the items that they are of

pub words_map : {X : Type 0} (f : X → List ℕ) (xs ys : List X) (o n : List ℕ) → n ≡ o ++ flat_map (λ x. 32 ∷ f x) xs → xs ≡ ys → n ≡ o ++ spaced (map f ys)
words_map f xs ys o n e same = e ∙ ap (λ l. o ++ l) (sym (spaced-map f xs)) ∙ ap (λ zs. o ++ spaced (map f zs)) same

pub words_flat : {X : Type 0} (f : X → List (List ℕ)) (xs ys : List X) (o n : List ℕ) → n ≡ o ++ flat_map (λ x. spaced (f x)) xs → xs ≡ ys → n ≡ o ++ spaced (flat_map f ys)
words_flat f xs ys o n e same = e ∙ ap (λ l. o ++ l) (sym (spaced-flat_map f xs)) ∙ ap (λ zs. o ++ spaced (flat_map f zs)) same

pub word_same : (o w v n : List ℕ) → n ≡ o ++ 32 ∷ w → w ≡ v → n ≡ o ++ 32 ∷ v
word_same o w v n e same = e ∙ ap (λ z. o ++ 32 ∷ z) same
