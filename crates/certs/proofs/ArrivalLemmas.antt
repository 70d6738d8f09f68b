-- The levels with which scenarios arrive at a node, one scenario at a time.
use Rattle.std.specs.Prelude.{◌≡◌, ℕ, zero, suc, ◌+◌, ◌<◌, ◌≤◌, List, [], ◌∷◌, ◌++◌, length, map, take, slice_get, slice_index_or, Bool, true, false, cond, nat_eq, Option, Some, None, refl, ◌⊎◌}
use Rattle.std.specs.List.{list_any}
use Rattle.std.proofs.Common.{arith, ap, sym, ◌∙◌, subst, inl, inr}
use Rattle.std.proofs.lemmas.List.{take_all}
use Rattle.int_model.specs.Programs.{Program}
use Rattle.scenario_changes.specs.Problems.{Problem, AreWithin, root_box}
use Rattle.certs.specs.Trees.{kept, of_live}
use Rattle.certs.specs.declared.level.Level.{Level}
use Rattle.certs.proofs.ClaimLaws.{all_within}
use Rattle.certs.proofs.TreeLaws.{AllLength, length-hull_of}
use Rattle.certs.proofs.LevelLists.{live_at, live_kept, kept_none, kept_some}

-- a list made item by item
map_suc : {X Y : Type 0} (f : X → Y) (xs : List X) (k : ℕ) (d : X) → k < length xs → map f (take k xs) ++ f (slice_index_or xs k d) ∷ [] ≡ map f (take (suc k) xs)
map_suc f [] k d l = absurd (omega arith)
map_suc f (x ∷ xs) zero d l = refl
map_suc {Y = Y} f (x ∷ xs) (suc k) d l = ap (λ (ys : List Y). f x ∷ ys) (map_suc f xs k d (omega arith))

pub map_next : {X Y : Type 0} (f : X → Y) (xs : List X) (k : ℕ) (d : X) → k < length xs → map f (take k xs) ++ f (slice_index_or xs k d) ∷ [] ≡ map f (take (k + 1) xs)
map_next f xs k d l = let n : suc k ≡ k + 1 = omega arith in map_suc f xs k d l ∙ ap (λ (j : ℕ). map f (take j xs)) n

pub map_done : {X Y : Type 0} (f : X → Y) (xs : List X) (k : ℕ) → length xs ≤ k → map f (take k xs) ≡ map f xs
map_done {X = X} f xs k l = ap (λ (ys : List X). map f ys) (take_all k xs l)

last_or_less : (m k : ℕ) → m < k + 1 → (m ≡ k) ⊎ (m < k)
last_or_less zero zero h = inl refl
last_or_less zero (suc k) h = inr (omega arith)
last_or_less (suc m) zero h = absurd (omega arith)
last_or_less (suc m) (suc k) h = elim (last_or_less m k (omega arith)) [ inl e ↦ inl (ap suc e) | inr l ↦ inr (omega (arith, l)) ]

get_before : {X : Type 0} (xs : List X) (x : X) (m : ℕ) → m < length xs → slice_get (xs ++ x ∷ []) m ≡ slice_get xs m
get_before [] x m h = absurd (omega arith)
get_before (y ∷ xs) x zero h = refl
get_before (y ∷ xs) x (suc m) h = get_before xs x m (omega arith)

get_last : {X : Type 0} (xs : List X) (x : X) → slice_get (xs ++ x ∷ []) (length xs) ≡ Some x
get_last [] x = refl
get_last (y ∷ xs) x = get_last xs x

length_push : {X : Type 0} (xs : List X) (x : X) → length (xs ++ x ∷ []) ≡ length xs + 1
length_push [] x = omega arith
length_push (y ∷ xs) x = omega (arith, length_push xs x)

get_past : {X : Type 0} (xs : List X) (k : ℕ) → length xs ≤ k → slice_get xs k ≡ None
get_past [] k l = refl
get_past (x ∷ xs) zero l = absurd (omega arith)
get_past (x ∷ xs) (suc k) l = get_past xs k (omega arith)

index_past : {X : Type 0} (xs : List X) (k : ℕ) (d : X) → length xs ≤ k → slice_index_or xs k d ≡ d
index_past [] k d l = refl
index_past (x ∷ xs) zero d l = absurd (omega arith)
index_past (x ∷ xs) (suc k) d l = index_past xs k d (omega arith)

-- ---- levels

-- the levels made so far
pub record MadeSoFar (stay : List ℕ) (levels : List Level) (raised : List (Option Level)) (k : ℕ) (made : List Level) : Type 0 where
  pub count : length made ≡ k
  pub stays : (m : ℕ) → m < k → list_any (nat_eq m) stay ≡ true → slice_get made m ≡ slice_index_or raised m None
  pub leaves : (m : ℕ) → m < k → list_any (nat_eq m) stay ≡ false → slice_get made m ≡ slice_get levels m

pub made_first : (stay : List ℕ) (levels : List Level) (raised : List (Option Level)) (made : List Level) → made ≡ [] → MadeSoFar stay levels raised 0 made
made_first stay levels raised made e = record {
  count = ap length e;
  stays = λ m l. absurd (omega arith);
  leaves = λ m l. absurd (omega arith);
}

pub made_next : (stay : List ℕ) (levels : List Level) (raised : List (Option Level)) (k : ℕ) (made new : List Level) (l : Level) → MadeSoFar stay levels raised k made → new ≡ made ++ l ∷ [] → (list_any (nat_eq k) stay ≡ true → Some l ≡ slice_index_or raised k None) → (list_any (nat_eq k) stay ≡ false → Some l ≡ slice_get levels k) → MadeSoFar stay levels raised (k + 1) new
made_next stay levels raised k made new l h e f g = record {
  count = ap length e ∙ length_push made l ∙ ap (λ (n : ℕ). n + 1) h.count;
  stays = λ m b s. elim (last_or_less m k b) [
    | inl q ↦ (here m q ∙ f (subst (λ (n : ℕ). list_any (nat_eq n) stay ≡ true) q s) ∙ ap (λ (n : ℕ). slice_index_or raised n None) (sym q))
    | inr q ↦ (there m q ∙ h.stays m q s)
  ];
  leaves = λ m b s. elim (last_or_less m k b) [
    | inl q ↦ (here m q ∙ g (subst (λ (n : ℕ). list_any (nat_eq n) stay ≡ false) q s) ∙ ap (λ (n : ℕ). slice_get levels n) (sym q))
    | inr q ↦ (there m q ∙ h.leaves m q s)
  ];
}
  where
    here : (m : ℕ) → m ≡ k → slice_get new m ≡ Some l
    here m q = ap (λ (n : ℕ). slice_get new n) (q ∙ sym h.count) ∙ ap (λ (xs : List Level). slice_get xs (length made)) e ∙ get_last made l

    there : (m : ℕ) → m < k → slice_get new m ≡ slice_get made m
    there m q = ap (λ (xs : List Level). slice_get xs m) e ∙ get_before made l m (omega (arith, q, h.count))

pub made_kept : (stay : List ℕ) (levels : List Level) (raised : List (Option Level)) (k : ℕ) (made : List Level) → MadeSoFar stay levels raised k made → length levels ≤ k → k ≤ length levels → length raised ≡ length levels → of_live stay 0 made ≡ kept stay 0 raised
made_kept stay levels raised k made h low high n = live_kept stay stay made raised (omega (arith, h.count, low, high, n)) (λ m l. by_test m (omega (arith, l, h.count)) (list_any (nat_eq m) stay) refl)
  where
    by_test : (m : ℕ) → m < k → (b : Bool) → list_any (nat_eq m) stay ≡ b → slice_index_or (of_live stay 0 made) m None ≡ slice_index_or (kept stay 0 raised) m None
    by_test m l true e = live_at stay made m ∙ ap (λ (b : Bool). cond b (slice_get made m) None) e ∙ h.stays m l e ∙ kept_some stay raised m e
    by_test m l false e = live_at stay made m ∙ ap (λ (b : Bool). cond b (slice_get made m) None) e ∙ kept_none stay raised m e

pub made_others : (stay : List ℕ) (levels : List Level) (raised : List (Option Level)) (k : ℕ) (made : List Level) → MadeSoFar stay levels raised k made → length levels ≤ k → (m : ℕ) → list_any (nat_eq m) stay ≡ false → slice_get made m ≡ slice_get levels m
made_others stay levels raised k made h low = λ m e. elim (less_or_not m k) [
  | inl l ↦ h.leaves m l e
  | inr l ↦ (get_past made m (omega (arith, l, h.count)) ∙ sym (get_past levels m (omega (arith, l, low))))
]
  where
    less_or_not : (m k : ℕ) → (m < k) ⊎ (k ≤ m)
    less_or_not m zero = inr (omega arith)
    less_or_not zero (suc k) = inl (omega arith)
    less_or_not (suc m) (suc k) = elim (less_or_not m k) [ inl l ↦ inl (omega (arith, l)) | inr l ↦ inr (omega (arith, l)) ]

pub get_of : {X : Type 0} (xs : List X) (k : ℕ) (d x : X) → k < length xs → x ≡ slice_index_or xs k d → Some x ≡ slice_get xs k
get_of [] k d x l e = absurd (omega arith)
get_of (y ∷ xs) zero d x l e = ap Some e
get_of (y ∷ xs) (suc k) d x l e = get_of xs k d x (omega arith) e

pub index_other : {X : Type 0} (xs : List X) (k : ℕ) (d e : X) → k < length xs → slice_index_or xs k d ≡ slice_index_or xs k e
index_other [] k d e l = absurd (omega arith)
index_other (x ∷ xs) zero d e l = refl
index_other (x ∷ xs) (suc k) d e l = index_other xs k d e (omega arith)

-- ---- the first node

-- where every scenario is live, each has its level
pub live_all : (live : List ℕ) (j : ℕ) (f : Program → Level) (ss : List Program) → ((k : ℕ) → j ≤ k → k < j + length ss → list_any (nat_eq k) live ≡ true) → of_live live j (map f ss) ≡ map (λ (s : Program). Some (f s)) ss
live_all live j f [] h = refl
live_all live j f (s ∷ ss) h =
    ap (λ b. cond b (Some (f s)) None ∷ of_live live (suc j) (map f ss)) (h j (omega arith) (omega arith))
    ∙ ap (λ (ls : List (Option Level)). Some (f s) ∷ ls) (live_all live (suc j) f ss (λ k a b. h k (omega arith) (omega arith)))

bounds_long : (n : ℕ) (ss : List Program) → ((k : ℕ) (s : Program) → slice_get ss k ≡ Some s → length s.bounds ≡ n) → AllLength n (map (λ (s : Program). s.bounds) ss)
bounds_long n [] h = tt
bounds_long n (s ∷ ss) h = (h 0 s refl, bounds_long n ss (λ k t e. h (suc k) t e))

root_long : (n : ℕ) (ss : List Program) → 0 < length ss → ((k : ℕ) (s : Program) → slice_get ss k ≡ Some s → length s.bounds ≡ n) → length (root_box ss) ≡ n
root_long n [] l h = absurd (omega arith)
root_long n (s ∷ ss) l h = length-hull_of n s.bounds (map (λ (t : Program). t.bounds) ss) (bounds_long n (s ∷ ss) h)

pub root_wide : (p : Problem) → AreWithin p → length (root_box p.scenarios) ≡ p.columns
root_wide p limits = root_long p.columns p.scenarios limits.some_scenario (λ k s e. (all_within p limits k s e).shape.bounds)
