-- Lists after a write, and longer by some items.
use Rattle.std.specs.Prelude.{◌≡◌, ℕ, zero, suc, ◌+◌, ◌<◌, ◌≤◌, List, [], ◌∷◌, ◌++◌, length, take, slice_get, slice_set, flat_map, map, Option, Some, refl, ◌⊎◌}
use Rattle.std.proofs.Common.{arith, ap, sym, ◌∙◌, inl, inr}
use Rattle.std.proofs.lemmas.List.{take-append-le}

-- an element of a mapped list comes from one of the list
pub map-get : {X Y : Type 0} (g : X → Y) (xs : List X) (n : ℕ) (y : Y) → slice_get (map g xs) n ≡ Some y → (x : X) × (slice_get xs n ≡ Some x) × (g x ≡ y)
map-get g [] n y e = absurd (cc)
map-get g (x ∷ xs) zero y e = (x, refl, cc)
map-get g (x ∷ xs) (suc n) y e = map-get g xs n y e

pub some_same : {X : Type 0} {a b : X} → ◌≡◌ {A = Option X} (Some a) (Some b) → a ≡ b
some_same e = cc

-- what stands in a list after a write
pub set-get : {X : Type 0} (xs : List X) (n : ℕ) (y : X) (i : ℕ) (z : X) → slice_get (slice_set xs n y) i ≡ Some z → ((i ≡ n) × (y ≡ z)) ⊎ (slice_get xs i ≡ Some z)
set-get [] n y i z e = absurd (cc)
set-get (x ∷ xs) zero y zero z e = inl (refl, cc)
set-get (x ∷ xs) zero y (suc i) z e = inr e
set-get (x ∷ xs) (suc n) y zero z e = inr e
set-get (x ∷ xs) (suc n) y (suc i) z e =
    elim (set-get xs n y i z e) [ inl q ↦ inl (ap suc q.0, q.1) | inr q ↦ inr q ]

-- a list after a write, and one more list behind it
pub append-get : {X : Type 0} (xs ys : List X) (i : ℕ) (z : X) → slice_get (xs ++ ys) i ≡ Some z → (slice_get xs i ≡ Some z) ⊎ ((j : ℕ) × (i ≡ length xs + j) × (slice_get ys j ≡ Some z))
append-get [] ys i z e = inr (i, omega arith, e)
append-get (x ∷ xs) ys zero z e = inl e
append-get (x ∷ xs) ys (suc i) z e =
    elim (append-get xs ys i z e) [ inl q ↦ inl q | inr q ↦ inr (q.0, omega (arith, q.1), q.2) ]

pub get-below : {X : Type 0} (xs : List X) (i : ℕ) (z : X) → slice_get xs i ≡ Some z → i < length xs
get-below [] i z e = absurd (cc)
get-below (x ∷ xs) zero z e = omega arith
get-below (x ∷ xs) (suc i) z e = let h : i < length xs = get-below xs i z e in omega arith

-- a write of an element at which f gives the same changes nothing for f
pub flat_map-set : {X Y : Type 0} (f : X → List Y) (xs : List X) (n : ℕ) (old y : X) (m : ℕ) → slice_get xs n ≡ Some old → f y ≡ f old → flat_map f (take m (slice_set xs n y)) ≡ flat_map f (take m xs)
flat_map-set f [] n old y m e g = absurd (cc)
flat_map-set f (x ∷ xs) zero old y zero e g = refl
flat_map-set f (x ∷ xs) zero old y (suc m) e g = let u : x ≡ old = cc in ap (λ ys. ys ++ flat_map f (take m xs)) (g ∙ ap f (sym u))
flat_map-set f (x ∷ xs) (suc n) old y zero e g = refl
flat_map-set f (x ∷ xs) (suc n) old y (suc m) e g = ap (λ ys. f x ++ ys) (flat_map-set f xs n old y m e g)

-- where f gives nothing at the others
pub flat_map-nothing : {X Y : Type 0} (f : X → List Y) (xs : List X) → ((i : ℕ) (z : X) → slice_get xs i ≡ Some z → f z ≡ []) → flat_map f xs ≡ []
flat_map-nothing f [] h = refl
flat_map-nothing f (x ∷ xs) h = rw (h 0 x refl) (flat_map-nothing f xs (λ i z e. h (suc i) z e))

pub flat_map-only : {X Y : Type 0} (f : X → List Y) (xs : List X) (n : ℕ) (y : X) (a : Y) → n < length xs → f y ≡ a ∷ [] → ((i : ℕ) (z : X) → slice_get xs i ≡ Some z → f z ≡ []) → flat_map f (slice_set xs n y) ≡ a ∷ []
flat_map-only f [] n y a l e h = absurd (omega arith)
flat_map-only f (x ∷ xs) zero y a l e h = rw (e, flat_map-nothing f xs (λ i z q. h (suc i) z q)) refl
flat_map-only f (x ∷ xs) (suc n) y a l e h = rw (h 0 x refl) (flat_map-only f xs n y a (omega arith) e (λ i z q. h (suc i) z q))

pub take-front : {X : Type 0} (xs ys : List X) (m : ℕ) → m ≤ length xs → take m (xs ++ ys) ≡ take m xs
take-front xs ys m h = take-append-le m xs ys h

pub take-past : {X : Type 0} (xs ys : List X) (m j : ℕ) → m ≡ length xs + j → take m (xs ++ ys) ≡ xs ++ take j ys
take-past [] ys m j e = ap (λ (k : ℕ). take k ys) (let g : m ≡ j = omega arith in g)
take-past (x ∷ xs) ys zero j e = absurd (omega arith)
take-past (x ∷ xs) ys (suc m) j e = ap (λ zs. x ∷ zs) (take-past xs ys m j (omega arith))

pub flat_map-last : {X Y : Type 0} (f : X → List Y) (xs : List X) (y : X) → f y ≡ [] → flat_map f (xs ++ y ∷ []) ≡ flat_map f xs
flat_map-last f [] y e = rw e refl
flat_map-last f (x ∷ xs) y e = ap (λ ys. f x ++ ys) (flat_map-last f xs y e)
