-- What a file put in its place, or behind all others, leaves of the map of files.
use Rattle.std.proofs.Common.{◌≡◌, ℕ, suc, zero, ◌<◌, Bool, List, [], ◌∷◌, ◌++◌, map, length, get_or, set, cond, true, false, Some, None, refl, sym, ◌∙◌, ap, arith, nat_lt, position, string_bytes}
use Rattle.std.proofs.lemmas.Bool.Decides.{nat_tests}
use Rattle.std.proofs.lemmas.List.{map-append}
use Rattle.std.proofs.lemmas.List.Quantifiers.{position-Some}
use Rattle.std.proofs.lemmas.List.Sums.{fails_before_first}
use Rattle.std.proofs.lemmas.Map.Text.{is_eq-slice_cmp}
use Rattle.std.proofs.lemmas.Slice.Eq.{bytes_eq-Decides}
use Rattle.std.specs.Cmp.Lexicographic.{slice_cmp, nat_list_cmp_total}
use Rattle.std.specs.FinMap.{find, get-insert, get-from_entries, insert, get, same_map, nat_cmp-IsAntisymmetric, slice_cmp-IsAntisymmetric, from_entries_push}
use Rattle.std.specs.Ordering.{nat_cmp}
use Rattle.std.specs.Str.{bytes_eq}
use Rattle.desk.specs.declared.files.StoredFile.{StoredFile}
use Rattle.desk.specs.Desk.{Files}
use Rattle.desk.specs.Stored.{file_entry, files_of}

cond_twice : {A : Type 0} (b : Bool) (x y z : A) → cond b x z ≡ cond b x (cond b y z)
cond_twice true x y z = refl
cond_twice false x y z = refl

cond_swap : {A : Type 0} (a b : Bool) (x y z : A) → (a ≡ true → b ≡ true → ⊥) → cond a x (cond b y z) ≡ cond b y (cond a x z)
cond_swap true true x y z apart = absurd (apart refl refl)
cond_swap true false x y z apart = refl
cond_swap false b x y z apart = refl

apart_names : (q x y : List ℕ) → bytes_eq y x ≡ false → bytes_eq q x ≡ true → bytes_eq q y ≡ true → ⊥
apart_names q x y differ is_x is_y =
    let same : y ≡ x = sym ((bytes_eq-Decides q y).0 is_y) ∙ (bytes_eq-Decides q x).0 is_x in
    let e : bytes_eq y x ≡ true = (bytes_eq-Decides y x).1 same in
    cc

-- The first file of a name was replaced by another one of it.
find-set : (fs : List StoredFile) (k : ℕ) (f : StoredFile) (q : List ℕ) → k < length fs → string_bytes (get_or fs k f).name ≡ string_bytes f.name → ((j : ℕ) → j < k → bytes_eq (string_bytes f.name) (string_bytes (get_or fs j f).name) ≡ false) → find (slice_cmp nat_cmp) q (map file_entry (set fs k f)) ≡ cond (bytes_eq q (string_bytes f.name)) (Some f.bytes.items) (find (slice_cmp nat_cmp) q (map file_entry fs))
find-set [] k f q within same first = absurd (omega arith)
find-set (x ∷ xs) zero f q within same first = rw (is_eq-slice_cmp q (string_bytes f.name), is_eq-slice_cmp q (string_bytes x.name), same) (cond_twice (bytes_eq q (string_bytes f.name)) _ _ _)
find-set (x ∷ xs) (suc k) f q within same first =
    rw (is_eq-slice_cmp q (string_bytes x.name), find-set xs k f q (omega arith) same (λ j h. first (suc j) (omega arith)))
    (cond_swap (bytes_eq q (string_bytes x.name)) (bytes_eq q (string_bytes f.name)) _ _ _ (apart_names q (string_bytes x.name) (string_bytes f.name) (first 0 (omega arith))))

same_files : (m n : Files) → ((q : List ℕ) → get m q ≡ get n q) → m ≡ n
same_files = same_map nat_list_cmp_total (slice_cmp-IsAntisymmetric nat_cmp-IsAntisymmetric)

pub get_insert-bytes_eq : (m : Files) (name bytes q : List ℕ) → get (insert m name bytes) q ≡ cond (bytes_eq q name) (Some bytes) (get m q)
get_insert-bytes_eq m name bytes q = rw (← is_eq-slice_cmp) (get-insert nat_list_cmp_total m name bytes q)

abbrev is_named : List ℕ → StoredFile → Bool
is_named name f = bytes_eq name (string_bytes f.name)

pub files_of-set : (fs : List StoredFile) (k : ℕ) (old new : StoredFile) (name : List ℕ) → position (λ f. bytes_eq name (string_bytes f.name)) fs ≡ Some k → old ≡ get_or fs k old → string_bytes new.name ≡ string_bytes old.name → files_of (set fs k new) ≡ insert (files_of fs) name new.bytes.items
files_of-set fs k old new name found is same =
    let at_old = position-Some (is_named name) fs k old found in
    let at_new = position-Some (is_named name) fs k new found in
    let named_old : name ≡ string_bytes old.name = (bytes_eq-Decides name (string_bytes old.name)).0 (rw (← is) at at_old.1) in
    let named_place : name ≡ string_bytes (get_or fs k new).name = (bytes_eq-Decides name (string_bytes (get_or fs k new).name)).0 at_new.1 in
    let named_new : string_bytes new.name ≡ name = same ∙ sym named_old in
    same_files _ _ (λ q.
    get-from_entries nat_list_cmp_total (map file_entry (set fs k new)) q
    ∙ find-set fs k new q at_new.0 (sym named_place ∙ sym named_new) (rw (← named_new) at at_new.2)
    ∙ rw named_new (sym (get_insert-bytes_eq (files_of fs) name new.bytes.items q ∙ ap (cond (bytes_eq q name) (Some new.bytes.items)) (get-from_entries nat_list_cmp_total (map file_entry fs) q))))

-- No file of the name stands among these.
find_none : (fs : List StoredFile) (name : List ℕ) → ((k : ℕ) (d : StoredFile) → k < length fs → bytes_eq name (string_bytes (get_or fs k d).name) ≡ false) → find (slice_cmp nat_cmp) name (map file_entry fs) ≡ None
find_none [] name differ = refl
find_none (x ∷ xs) name differ = rw (is_eq-slice_cmp name (string_bytes x.name), differ 0 x (omega arith)) (find_none xs name (λ k d h. differ (suc k) d (omega arith)))

beyond_all : (n m k : ℕ) → cond (nat_lt n m) (Some n) None ≡ None → k < m → k < n
beyond_all n m k e h = grind (arith, nat_tests)

find-no_place : (fs : List StoredFile) (name : List ℕ) → position (is_named name) fs ≡ None → find (slice_cmp nat_cmp) name (map file_entry fs) ≡ None
find-no_place fs name none = find_none fs name (λ k d h. fails_before_first (is_named name) fs k d (beyond_all _ (length fs) k none h))

pub files_of-push : (fs : List StoredFile) (new : StoredFile) (name : List ℕ) → position (λ f. bytes_eq name (string_bytes f.name)) fs ≡ None → string_bytes new.name ≡ name → files_of (fs ++ new ∷ []) ≡ insert (files_of fs) name new.bytes.items
files_of-push fs new name none same =
    rw (map-append, same) (from_entries_push nat_list_cmp_total (slice_cmp-IsAntisymmetric nat_cmp-IsAntisymmetric) (map file_entry fs) name new.bytes.items (find-no_place fs name none))
