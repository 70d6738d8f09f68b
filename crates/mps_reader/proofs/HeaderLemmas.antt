-- The headers so far, by their words.
use Rattle.std.proofs.Common.{◌≡◌, ap, ◌-◌, Bool, ◌||◌, ◌&&◌, List, [], ◌∷◌, map, length, refl, arith, suc}
use Rattle.std.specs.List.{list_any, list_all, slice_get}
use Rattle.std.specs.Option.{option_map}
use Rattle.num_text.specs.Words.{last_of}

pub list_any-map : {X Y : Type 0} (p : Y → Bool) (f : X → Y) (xs : List X) → list_any p (map f xs) ≡ list_any (λ x. p (f x)) xs
list_any-map p f [] = refl
list_any-map p f (x ∷ xs) = ap (λ b. p (f x) || b) (list_any-map p f xs)

pub list_all-map : {X Y : Type 0} (p : Y → Bool) (f : X → Y) (xs : List X) → list_all p (map f xs) ≡ list_all (λ x. p (f x)) xs
list_all-map p f [] = refl
list_all-map p f (x ∷ xs) = ap (λ b. p (f x) && b) (list_all-map p f xs)

pub last_of-map : {X Y : Type 0} (f : X → Y) (xs : List X) → last_of (map f xs) ≡ option_map f (last_of xs)
last_of-map f [] = refl
last_of-map f (x ∷ []) = refl
last_of-map f (x ∷ y ∷ xs) = last_of-map f (y ∷ xs)

pub last_of-get : {X : Type 0} (xs : List X) → slice_get xs (length xs - 1) ≡ last_of xs
last_of-get [] = refl
last_of-get (x ∷ []) = refl
last_of-get (x ∷ y ∷ xs) =
    let step : suc (suc (length xs)) - 1 ≡ suc (length xs) = omega arith in
    let back : suc (length xs) - 1 ≡ length xs = omega arith in
    rw step (let rest = rw back at (last_of-get (y ∷ xs)) in rest)

pub ruleset by_words = (list_any-map, list_all-map)
