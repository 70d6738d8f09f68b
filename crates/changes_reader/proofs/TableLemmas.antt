-- Tables of numbers that grow from the last name to the first.
use Rattle.std.proofs.Common.{◌≡◌, ◌∙◌, ap, sym, ℕ, ◌+◌, ◌<◌, ◌≤◌, Bool, cond, List, [], ◌∷◌, length, map, drop, Some, Bor, get_or}
use Rattle.std.specs.Prelude.{bytes_eq, slice_get}
use Rattle.std.specs.List.{position_from}
use Rattle.std.specs.Map.{lookup}
use Rattle.std.proofs.lemmas.List.{drop_all, drop_more, get_or-map, length-map}
use Rattle.std.proofs.lemmas.Option.{get_or_from_slice_get}
use Rattle.std.proofs.lemmas.Iterator.Adapters.{position_from-zero}
use Rattle.changes_reader.specs.Tables.{AreNumbers, AreNumbersFrom}

-- no numbers behind the last name
pub none_numbered : (names : List (List ℕ)) (j : ℕ) (entries : List (Bor (List ℕ) × ℕ)) → entries ≡ [] → length names ≤ j → AreNumbersFrom j names entries
none_numbered names j entries e h = λ name.
    ap (lookup (λ (k : Bor (List ℕ)). bytes_eq name.now k.now)) e ∙ ap (position_from (λ n. bytes_eq n name.now) j) (sym (drop_all j names h))

-- all numbers
pub all_numbered : (names : List (List ℕ)) (j : ℕ) (entries : List (Bor (List ℕ) × ℕ)) → j ≡ 0 → AreNumbersFrom j names entries → AreNumbers names entries
all_numbered names j entries e h = λ name.
    h name ∙ ap (λ (k : ℕ). position_from (λ n. bytes_eq n name.now) k (drop k names)) e ∙ sym (position_from-zero (λ n. bytes_eq n name.now) names)

-- one number more
pub one_numbered : (names : List (List ℕ)) (j k : ℕ) (x : List ℕ) (old new : List (Bor (List ℕ) × ℕ)) → k ≡ j + 1 → j < length names → get_or names j x ≡ x → AreNumbersFrom k names old → ((name : Bor (List ℕ)) → lookup (λ (k : Bor (List ℕ)). bytes_eq name.now k.now) new ≡ cond (bytes_eq x name.now) (Some j) (lookup (λ (k : Bor (List ℕ)). bytes_eq name.now k.now) old)) → AreNumbersFrom j names new
one_numbered names j k x old new e h at before now = λ name.
    let test : List ℕ → Bool = λ n. bytes_eq n name.now in
    let rest : drop j names ≡ x ∷ drop (j + 1) names = drop_more names j x h ∙ ap (λ (y : List ℕ). y ∷ drop (j + 1) names) at in
    now name
    ∙ ap (cond (bytes_eq x name.now) (Some j)) (before name ∙ ap (λ (i : ℕ). position_from test i (drop i names)) e)
    ∙ ap (position_from test j) (sym rest)

-- the same where the names are those of some items
pub item_numbered : {X : Type 0} (f : X → List ℕ) (xs : List X) (j k : ℕ) (x : X) (key : Bor (List ℕ)) (old new : List (Bor (List ℕ) × ℕ)) → k ≡ j + 1 → j < length xs → slice_get xs j ≡ Some x → key.now ≡ f x → AreNumbersFrom k (map f xs) old → ((name : Bor (List ℕ)) → lookup (λ (k : Bor (List ℕ)). bytes_eq name.now k.now) new ≡ cond (bytes_eq key.now name.now) (Some j) (lookup (λ (k : Bor (List ℕ)). bytes_eq name.now k.now) old)) → AreNumbersFrom j (map f xs) new
item_numbered f xs j k x key old new e h at is before now =
    let within : j < length (map f xs) = rw (length-map xs f) h in
    let here : get_or (map f xs) j key.now ≡ key.now = get_or-map f xs j x key.now h ∙ ap f (get_or_from_slice_get xs j x x at) ∙ sym is in
    one_numbered (map f xs) j k key.now old new e within here before now
