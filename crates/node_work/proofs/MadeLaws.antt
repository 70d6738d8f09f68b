-- Levels of children and sets of stayers, one scenario at a time.
use Rattle.std.specs.Prelude.{◌≡◌, ◌↔◌, ℕ, zero, suc, ◌+◌, ◌<◌, ◌≤◌, ℤ, List, [], ◌∷◌, ◌++◌, length, slice_get, slice_index_or, Bool, true, false, cond, nat_eq, Option, Some, None, IsTrue, Contains, is_some, not, refl, ◌⊎◌}
use Rattle.std.specs.List.{list_any}
use Rattle.std.proofs.Common.{arith, ap, sym, ◌∙◌, subst, inl, inr}
use Rattle.certs.specs.Trees.{kept}
use Rattle.certs.specs.declared.level.Level.{Level}
use Rattle.certs.specs.Trees.{of_live}
use Rattle.node_work.specs.Stayers.{is_below, undercuts}
use Rattle.certs.proofs.LevelLists.{live_at, live_kept, kept_none, kept_some}

last_or_less : (m k : ℕ) → m < k + 1 → (m ≡ k) ⊎ (m < k)
last_or_less zero zero h = inl refl
last_or_less zero (suc k) h = inr (omega arith)
last_or_less (suc m) zero h = absurd (omega arith)
last_or_less (suc m) (suc k) h = elim (last_or_less m k (omega arith)) [ inl e ↦ inl (ap suc e) | inr l ↦ inr (omega (arith, l)) ]

get_before : {X : Type 0} (xs : List X) (x : X) (m : ℕ) → m < length xs → slice_get (xs ++ x ∷ []) m ≡ slice_get xs m
get_before [] x m h = absurd (omega arith)
get_before (y ∷ xs) x zero h = refl
get_before (y ∷ xs) x (suc m) h = get_before xs x m (omega arith)

get_last : {X : Type 0} (xs : List X) (x : X) → slice_get (xs ++ x ∷ []) (length xs) ≡ Some x
get_last [] x = refl
get_last (y ∷ xs) x = get_last xs x

length_push : {X : Type 0} (xs : List X) (x : X) → length (xs ++ x ∷ []) ≡ length xs + 1
length_push [] x = omega arith
length_push (y ∷ xs) x = omega (arith, length_push xs x)

get_past : {X : Type 0} (xs : List X) (k : ℕ) → length xs ≤ k → slice_get xs k ≡ None
get_past [] k l = refl
get_past (x ∷ xs) zero l = absurd (omega arith)
get_past (x ∷ xs) (suc k) l = get_past xs k (omega arith)

index_past : {X : Type 0} (xs : List X) (k : ℕ) (d : X) → length xs ≤ k → slice_index_or xs k d ≡ d
index_past [] k d l = refl
index_past (x ∷ xs) zero d l = absurd (omega arith)
index_past (x ∷ xs) (suc k) d l = index_past xs k d (omega arith)

-- ---- levels

-- the levels made so far
pub record MadeSoFar (stay : List ℕ) (levels : List Level) (raised : List (Option Level)) (k : ℕ) (made : List Level) : Type 0 where
  pub count : length made ≡ k
  pub stays : (m : ℕ) → m < k → list_any (nat_eq m) stay ≡ true → slice_get made m ≡ slice_index_or raised m None
  pub leaves : (m : ℕ) → m < k → list_any (nat_eq m) stay ≡ false → slice_get made m ≡ slice_get levels m

pub made_first : (stay : List ℕ) (levels : List Level) (raised : List (Option Level)) (made : List Level) → made ≡ [] → MadeSoFar stay levels raised 0 made
made_first stay levels raised made e = record {
  count = ap length e;
  stays = λ m l. absurd (omega arith);
  leaves = λ m l. absurd (omega arith);
}

pub made_next : (stay : List ℕ) (levels : List Level) (raised : List (Option Level)) (k : ℕ) (made new : List Level) (l : Level) → MadeSoFar stay levels raised k made → new ≡ made ++ l ∷ [] → (list_any (nat_eq k) stay ≡ true → Some l ≡ slice_index_or raised k None) → (list_any (nat_eq k) stay ≡ false → Some l ≡ slice_get levels k) → MadeSoFar stay levels raised (k + 1) new
made_next stay levels raised k made new l h e f g = record {
  count = ap length e ∙ length_push made l ∙ ap (λ (n : ℕ). n + 1) h.count;
  stays = λ m b s. elim (last_or_less m k b) [
    | inl q ↦ (here m q ∙ f (subst (λ (n : ℕ). list_any (nat_eq n) stay ≡ true) q s) ∙ ap (λ (n : ℕ). slice_index_or raised n None) (sym q))
    | inr q ↦ (there m q ∙ h.stays m q s)
  ];
  leaves = λ m b s. elim (last_or_less m k b) [
    | inl q ↦ (here m q ∙ g (subst (λ (n : ℕ). list_any (nat_eq n) stay ≡ false) q s) ∙ ap (λ (n : ℕ). slice_get levels n) (sym q))
    | inr q ↦ (there m q ∙ h.leaves m q s)
  ];
}
  where
    here : (m : ℕ) → m ≡ k → slice_get new m ≡ Some l
    here m q = ap (λ (n : ℕ). slice_get new n) (q ∙ sym h.count) ∙ ap (λ (xs : List Level). slice_get xs (length made)) e ∙ get_last made l

    there : (m : ℕ) → m < k → slice_get new m ≡ slice_get made m
    there m q = ap (λ (xs : List Level). slice_get xs m) e ∙ get_before made l m (omega (arith, q, h.count))

pub made_kept : (stay : List ℕ) (levels : List Level) (raised : List (Option Level)) (k : ℕ) (made : List Level) → MadeSoFar stay levels raised k made → length levels ≤ k → k ≤ length levels → length raised ≡ length levels → of_live stay 0 made ≡ kept stay 0 raised
made_kept stay levels raised k made h low high n = live_kept stay stay made raised (omega (arith, h.count, low, high, n)) (λ m l. by_test m (omega (arith, l, h.count)) (list_any (nat_eq m) stay) refl)
  where
    by_test : (m : ℕ) → m < k → (b : Bool) → list_any (nat_eq m) stay ≡ b → slice_index_or (of_live stay 0 made) m None ≡ slice_index_or (kept stay 0 raised) m None
    by_test m l true e = live_at stay made m ∙ ap (λ (b : Bool). cond b (slice_get made m) None) e ∙ h.stays m l e ∙ kept_some stay raised m e
    by_test m l false e = live_at stay made m ∙ ap (λ (b : Bool). cond b (slice_get made m) None) e ∙ kept_none stay raised m e

pub made_others : (stay : List ℕ) (levels : List Level) (raised : List (Option Level)) (k : ℕ) (made : List Level) → MadeSoFar stay levels raised k made → length levels ≤ k → (m : ℕ) → list_any (nat_eq m) stay ≡ false → slice_get made m ≡ slice_get levels m
made_others stay levels raised k made h low = λ m e. elim (less_or_not m k) [
  | inl l ↦ h.leaves m l e
  | inr l ↦ (get_past made m (omega (arith, l, h.count)) ∙ sym (get_past levels m (omega (arith, l, low))))
]
  where
    less_or_not : (m k : ℕ) → (m < k) ⊎ (k ≤ m)
    less_or_not m zero = inr (omega arith)
    less_or_not zero (suc k) = inl (omega arith)
    less_or_not (suc m) (suc k) = elim (less_or_not m k) [ inl l ↦ inl (omega (arith, l)) | inr l ↦ inr (omega (arith, l)) ]

pub get_of : {X : Type 0} (xs : List X) (k : ℕ) (d x : X) → k < length xs → x ≡ slice_index_or xs k d → Some x ≡ slice_get xs k
get_of [] k d x l e = absurd (omega arith)
get_of (y ∷ xs) zero d x l e = ap Some e
get_of (y ∷ xs) (suc k) d x l e = get_of xs k d x (omega arith) e

pub index_other : {X : Type 0} (xs : List X) (k : ℕ) (d e : X) → k < length xs → slice_index_or xs k d ≡ slice_index_or xs k e
index_other [] k d e l = absurd (omega arith)
index_other (x ∷ xs) zero d e l = refl
index_other (x ∷ xs) (suc k) d e l = index_other xs k d e (omega arith)

-- ---- stayers

-- the stayers below k
pub record StaySoFar (cuts : List (Option ℤ)) (raised : List (Option Level)) (k : ℕ) (stay : List ℕ) : Type 0 where
  pub inside : (m : ℕ) → Contains stay m → (m < k) × (undercuts cuts raised m ≡ true)
  pub all : (m : ℕ) → m < k → undercuts cuts raised m ≡ true → Contains stay m

pub stay_in : (cuts : List (Option ℤ)) (raised : List (Option Level)) (k : ℕ) (stay new : List ℕ) → StaySoFar cuts raised k stay → undercuts cuts raised k ≡ true → ((m : ℕ) → Contains new m ↔ ((m ≡ k) ⊎ Contains stay m)) → StaySoFar cuts raised (k + 1) new
stay_in cuts raised k stay new h e f = record {
  inside = λ m c. elim ((f m).0 c) [
    | inl q ↦ (omega (arith, q), ap (undercuts cuts raised) q ∙ e)
    | inr d ↦ (let t = h.inside m d in (omega (arith, t.0), t.1))
  ];
  all = λ m l u. (f m).1 (elim (last_or_less m k l) [ inl q ↦ inl q | inr q ↦ inr (h.all m q u) ]);
}

pub stay_out : (cuts : List (Option ℤ)) (raised : List (Option Level)) (k : ℕ) (stay : List ℕ) → StaySoFar cuts raised k stay → undercuts cuts raised k ≡ false → StaySoFar cuts raised (k + 1) stay
stay_out cuts raised k stay h e = record {
  inside = λ m c. (let t = h.inside m c in (omega (arith, t.0), t.1));
  all = λ m l u. elim (last_or_less m k l) [
    | inl q ↦ absurd (let w : true ≡ false = sym u ∙ ap (undercuts cuts raised) q ∙ e in cc)
    | inr q ↦ h.all m q u
  ];
}

pub stay_all : (cuts : List (Option ℤ)) (raised : List (Option Level)) (k : ℕ) (stay : List ℕ) → StaySoFar cuts raised k stay → length raised ≤ k → (m : ℕ) → Contains stay m ↔ IsTrue (undercuts cuts raised m)
stay_all cuts raised k stay h l = λ m. (λ c. (h.inside m c).1, λ u. h.all m (below m u) u)
  where
    less_or_not : (m k : ℕ) → (m < k) ⊎ (k ≤ m)
    less_or_not m zero = inr (omega arith)
    less_or_not zero (suc k) = inl (omega arith)
    less_or_not (suc m) (suc k) = elim (less_or_not m k) [ inl l ↦ inl (omega (arith, l)) | inr l ↦ inr (omega (arith, l)) ]

    below : (m : ℕ) → undercuts cuts raised m ≡ true → m < k
    below m u = elim (less_or_not m k) [
      | inl q ↦ q
      | inr q ↦ absurd (let w : false ≡ true = ap (λ (o : Option Level). is_below (slice_index_or cuts m None) o) (sym (index_past raised m None (omega (arith, l, q)))) ∙ u in cc)
    ]

-- an option that is none
pub is_none_is : {X : Type 0} (o : Option X) (b : Bool) → is_some o ≡ not b → b ≡ true → o ≡ None
is_none_is None b h e = refl
is_none_is (Some x) true h e = absurd (cc)
is_none_is (Some x) false h e = absurd (cc)

pub not_none_is : {X : Type 0} (o : Option X) (b : Bool) → is_some o ≡ not b → b ≡ false → is_some o ≡ true
not_none_is o b h e = h ∙ ap (λ (c : Bool). not c) e
