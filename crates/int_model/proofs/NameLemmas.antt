-- The names seen so far in a table, which sees them by reference.
use Rattle.std.proofs.Common.{◌≡◌, ◌∙◌, ap, sym, ℕ, ◌+◌, ◌<◌, Bool, true, false, ◌||◌, List, [], ◌∷◌, ◌++◌, map, length, get_or, take, drop, Some, refl, add-one, drop-cons, Bor}
use Rattle.std.specs.List.{list_any}
use Rattle.std.specs.Str.{bytes_eq}
use Rattle.std.specs.Bool.{if◌then◌else◌}
use Rattle.std.proofs.lemmas.List.{map_more, map-append}
use Rattle.int_model.specs.Build.{first_of, refuse_if, names_refusal}
use Rattle.int_model.specs.declared.build.ModelError.TheVariants.{SameName}

module _ {X Y : Type 0} (p : Y → Bool) (f : X → Y) where
  list_any-map : (xs : List X) → list_any p (map f xs) ≡ list_any (λ x. p (f x)) xs
  list_any-map [] = refl
  list_any-map (x ∷ xs) = ap (λ b. p (f x) || b) (list_any-map xs)

abbrev pub texts : List (Bor (List ℕ)) → List (List ℕ)
texts ns = map (λ n. n.now) ns

refusal-drop : (ns : List (Bor (List ℕ))) (k : ℕ) (d : Bor (List ℕ)) → k < length ns → names_refusal k (texts (take k ns)) (texts (drop k ns)) ≡ first_of (refuse_if (list_any (bytes_eq (get_or ns k d).now) (texts (take k ns))) (SameName k)) (names_refusal (k + 1) (texts (take (k + 1) ns)) (texts (drop (k + 1) ns)))
refusal-drop ns k d h =
    let rest : drop k ns ≡ get_or ns k d ∷ drop (k + 1) ns = rw (add-one, drop-cons ns k d) refl in
    rw (map_more (λ n. n.now) ns k d h, rest) refl

pub seen_before : (ns : List (Bor (List ℕ))) (k : ℕ) (d : Bor (List ℕ)) → k < length ns → list_any (bytes_eq (get_or ns k d).now) (texts (take k ns)) ≡ true → names_refusal k (texts (take k ns)) (texts (drop k ns)) ≡ Some (SameName k)
seen_before ns k d h e = rw (refusal-drop ns k d h, e) refl

pub not_seen : (ns : List (Bor (List ℕ))) (k : ℕ) (d : Bor (List ℕ)) → k < length ns → list_any (bytes_eq (get_or ns k d).now) (texts (take k ns)) ≡ false → names_refusal k (texts (take k ns)) (texts (drop k ns)) ≡ names_refusal (k + 1) (texts (take (k + 1) ns)) (texts (drop (k + 1) ns))
not_seen ns k d h e = rw (refusal-drop ns k d h, e) refl

-- what the table answers is what the names before say
pub found : (n : List ℕ) (keys before : List (Bor (List ℕ))) (r : Bool) → r ≡ list_any (λ k. bytes_eq n k.now) keys → texts keys ≡ texts before → list_any (bytes_eq n) (texts before) ≡ r
found n keys before r e same = sym (e ∙ sym (list_any-map (bytes_eq n) (λ k. k.now) keys) ∙ ap (list_any (bytes_eq n)) same)

pub keys_pushed : (ns keys new : List (Bor (List ℕ))) (k : ℕ) (d : Bor (List ℕ)) (b : Bool) → k < length ns → texts keys ≡ texts (take k ns) → b ≡ false → new ≡ (if b then keys else keys ++ get_or ns k d ∷ []) → texts new ≡ texts (take (k + 1) ns)
keys_pushed ns keys new k d true h same absent e = absurd (cc)
keys_pushed ns keys new k d false h same absent e =
    ap texts e ∙ map-append (λ n. n.now) keys (get_or ns k d ∷ []) ∙ ap (λ l. l ++ (get_or ns k d).now ∷ []) same ∙ sym (map_more (λ n. n.now) ns k d h)
