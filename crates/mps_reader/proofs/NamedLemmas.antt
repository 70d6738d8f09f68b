-- Names in a table, which keeps references to them.
use Rattle.std.proofs.Common.{◌≡◌, ◌∙◌, ap, sym, ℕ, Bool, false, List, [], ◌∷◌, ◌++◌, map, length, Bor, refl, suc}
use Rattle.std.specs.Prelude.{if◌then◌else◌, bytes_eq}
use Rattle.std.specs.List.{list_any, position, position_or_len}
use Rattle.std.proofs.lemmas.List.{map-append}
use Rattle.mps_reader.proofs.HeaderLemmas.{list_any-map}

abbrev pub texts : List (Bor (List ℕ)) → List (List ℕ)
texts ks = map (λ k. k.now) ks

module _ {X Y : Type 0} (p : Y → Bool) (f : X → Y) where
  place-map : (xs : List X) → position_or_len p (map f xs) ≡ position_or_len (λ x. p (f x)) xs
  place-map [] = refl
  place-map (x ∷ xs) = rw (place-map xs) refl

  length-mapped : (xs : List X) → length (map f xs) ≡ length xs
  length-mapped [] = refl
  length-mapped (x ∷ xs) = ap suc (length-mapped xs)

  pub position-map : (xs : List X) → position p (map f xs) ≡ position (λ x. p (f x)) xs
  position-map xs = rw (place-map xs, length-mapped xs) refl

pub found_by_text : (n : List ℕ) (keys : List (Bor (List ℕ))) → list_any (bytes_eq n) (texts keys) ≡ list_any (λ k. bytes_eq n k.now) keys
found_by_text n keys = list_any-map (bytes_eq n) (λ k. k.now) keys

pub place_by_text : (n : List ℕ) (keys : List (Bor (List ℕ))) → position (bytes_eq n) (texts keys) ≡ position (λ k. bytes_eq n k.now) keys
place_by_text n keys = position-map (bytes_eq n) (λ k. k.now) keys

pub pushed : (n : Bor (List ℕ)) (keys new : List (Bor (List ℕ))) → list_any (bytes_eq n.now) (texts keys) ≡ false → new ≡ (if list_any (λ k. bytes_eq n.now k.now) keys then keys else keys ++ n ∷ []) → texts new ≡ texts keys ++ n.now ∷ []
pushed n keys new absent e =
    let none : list_any (λ k. bytes_eq n.now k.now) keys ≡ false = sym (found_by_text n.now keys) ∙ absent in
    ap texts (rw none at e) ∙ map-append (λ k. k.now) keys (n ∷ [])
