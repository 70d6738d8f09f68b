-- Words hold at the start and after each event, and are optima where no node is left.
use Rattle.std.specs.Prelude.{◌≡◌, ℕ, zero, suc, ◌<◌, ℤ, List, [], ◌∷◌, ◌++◌, length, slice_get, slice_index_or, slice_set, replicate, Bool, true, false, cond, IsTrue, Option, Some, refl, ◌⊎◌}
use Rattle.std.proofs.Common.{arith, ap, sym, ◌∙◌, subst, inl, inr, get_or-set_same}
use Rattle.std.proofs.lemmas.Int.{ints}
use Rattle.std.proofs.lemmas.List.{length-set, length-replicate}
use Rattle.int_model.specs.Programs.{Program, Feasible, value}
use Rattle.scenario_changes.specs.Answers.{HasValue}
use Rattle.scenario_changes.specs.Problems.{Problem}
use Rattle.certs.specs.Levels.{AtMost, level_le, lesser_level}
use Rattle.certs.specs.declared.level.Level.{Level}
use Rattle.certs.specs.declared.level.Level.TheVariants.{Value, Inf}
use Rattle.certs.proofs.TreeLaws.{AllWithin, AtMost-below}
use Rattle.bb_core.specs.Coverage.{Covers}
use Rattle.bb_core.specs.Machine.{State, Event, Claim, Look, Offer, Note, Settle, GiveBack, Sweep, Allowed, after, begin, FeasibleFor, level_of, level_for, offered, view_at, word_at, lesser_each}
use Rattle.bb_core.specs.Interleavings.{WordsHold, IsOffered, IsFinished, IsOptimum}
use Rattle.bb_core.proofs.CoverageLaws.{Covers-nothing_lost, lesser-le}
use Rattle.bb_core.proofs.ListWrites.{append-get, get-below}

-- ---- levels

level_le-refl : (a : Level) → IsTrue (level_le a a)
level_le-refl (Value a) = grind (arith, ints)
level_le-refl Inf = refl

level_le-Inf : (a : Level) → IsTrue (level_le a Inf)
level_le-Inf (Value a) = refl
level_le-Inf Inf = refl

lesser-right : (a b : Level) → IsTrue (level_le (lesser_level a b) b)
lesser-right a b = by_test (level_le a b) refl
  where
    by_test : (t : Bool) → level_le a b ≡ t → IsTrue (level_le (cond t a b) b)
    by_test true e = e
    by_test false e = level_le-refl b

lesser-is : (a b : Level) → (lesser_level a b ≡ a) ⊎ (lesser_level a b ≡ b)
lesser-is a b = by_test (level_le a b)
  where
    by_test : (t : Bool) → (cond t a b ≡ a) ⊎ (cond t a b ≡ b)
    by_test true = inl refl
    by_test false = inr refl

-- a level below two is below the lesser
le-lesser : (a b c : Level) → IsTrue (level_le a b) → IsTrue (level_le a c) → IsTrue (level_le a (lesser_level b c))
le-lesser a b c h g = by_test (level_le b c)
  where
    by_test : (t : Bool) → IsTrue (level_le a (cond t b c))
    by_test true = h
    by_test false = g

le-lesser_each : (bs cs : List Level) (k : ℕ) (a : Level) → IsTrue (level_le a (slice_index_or bs k Inf)) → IsTrue (level_le a (slice_index_or cs k Inf)) → IsTrue (level_le a (slice_index_or (lesser_each bs cs) k Inf))
le-lesser_each [] cs k a h g = h
le-lesser_each (b ∷ bs) [] k a h g = h
le-lesser_each (b ∷ bs) (c ∷ cs) zero a h g = le-lesser a b c h g
le-lesser_each (b ∷ bs) (c ∷ cs) (suc k) a h g = le-lesser_each bs cs k a h g

-- what stands at a place after a write
index-set : {X : Type 0} (xs : List X) (n : ℕ) (y : X) (k : ℕ) (d : X) → ((k ≡ n) × (slice_index_or (slice_set xs n y) k d ≡ y)) ⊎ (slice_index_or (slice_set xs n y) k d ≡ slice_index_or xs k d)
index-set [] n y k d = inr refl
index-set (x ∷ xs) zero y zero d = inl (refl, refl)
index-set (x ∷ xs) zero y (suc k) d = inr refl
index-set (x ∷ xs) (suc n) y zero d = inr refl
index-set (x ∷ xs) (suc n) y (suc k) d = elim (index-set xs n y k d) [ inl q ↦ inl (ap suc q.0, q.1) | inr q ↦ inr q ]

get-left : {X : Type 0} (xs ys : List X) (i : ℕ) (z : X) → slice_get xs i ≡ Some z → slice_get (xs ++ ys) i ≡ Some z
get-left [] ys i z e = absurd (cc)
get-left (x ∷ xs) ys zero z e = e
get-left (x ∷ xs) ys (suc i) z e = get-left xs ys i z e

get-last : {X : Type 0} (xs : List X) (z : X) → slice_get (xs ++ z ∷ []) (length xs) ≡ Some z
get-last [] z = refl
get-last (x ∷ xs) z = get-last xs z

-- ---- the finished state

pub finished : (p : Problem) → AllWithin p → (st : State) → Covers p st.slots st.caps → WordsHold p st → IsFinished st.slots → (k : ℕ) (s : Program) → slice_get p.scenarios k ≡ Some s → IsOptimum s (word_at st k)
finished p limits st covers words over k s found = by_word (word_at st k) refl
  where
    at_most : (x : List ℤ) → Feasible s x → AtMost (word_at st k) (value s x)
    at_most x f = elim (Covers-nothing_lost p limits st.slots st.caps covers k s x found f) [
      | inl a ↦ AtMost-below (word_at st k) (slice_index_or st.caps k Inf) (value s x) (words.caps k) a
      | inr w ↦ absurd (w.unsettled (over w.n w.slot w.found))
    ]

    by_word : (l : Level) → word_at st k ≡ l → IsOptimum s l
    by_word Inf e = λ x f. subst (λ (l : Level). AtMost l (value s x)) e (at_most x f)
    by_word (Value v) e = (by_offer v e (words.offered k), λ x f. subst (λ (l : Level). AtMost l (value s x)) e (at_most x f))
      where
        by_offer : (v : ℤ) → word_at st k ≡ Value v → IsOffered p st.offers k (word_at st k) → (x : List ℤ) × HasValue s x v
        by_offer v e (inl q) = absurd (cc)
        by_offer v e (inr q) =
            let f = words.feasible q.0 k q.1 q.2 in
            let same : f.0 ≡ s = some_is (sym f.1 ∙ found) in
            let l : Value v ≡ Value (value s q.1) = sym e ∙ q.3 ∙ ap (λ (o : Option Program). level_for o q.1) found in
            (q.1, (subst (λ (z : Program). Feasible z q.1) same f.2, value_is (sym l)))
          where
            some_is : {a b : Program} → ◌≡◌ {A = Option Program} (Some a) (Some b) → a ≡ b
            some_is e = cc

            value_is : {a b : ℤ} → Value a ≡ Value b → a ≡ b
            value_is e = cc

-- ---- events

-- an event that leaves offers, words and views, and lowers no cap below a word
WordsHold-caps : (p : Problem) (st other : State) → WordsHold p st → st.words ≡ other.words → st.offers ≡ other.offers → st.views ≡ other.views → ((k : ℕ) → IsTrue (level_le (word_at st k) (slice_index_or other.caps k Inf))) → WordsHold p other
WordsHold-caps p st other h w o v c = record {
  many = subst (λ (ws : List Level). length ws ≡ length p.scenarios) w h.many;
  feasible = λ i k x e. h.feasible i k x (ap (λ (xs : List (ℕ × List ℤ)). slice_get xs i) o ∙ e);
  least = λ i k x e. subst (λ (ws : List Level). IsTrue (level_le (slice_index_or ws k Inf) (level_of p k x))) w (h.least i k x (ap (λ (xs : List (ℕ × List ℤ)). slice_get xs i) o ∙ e));
  offered = λ k. subst (λ (ws : List Level). (slice_index_or ws k Inf ≡ Inf) ⊎ ((i : ℕ) × (x : List ℤ) × (slice_get other.offers i ≡ Some (k, x)) × (slice_index_or ws k Inf ≡ level_of p k x))) w
      (subst (λ (xs : List (ℕ × List ℤ)). (word_at st k ≡ Inf) ⊎ ((i : ℕ) × (x : List ℤ) × (slice_get xs i ≡ Some (k, x)) × (word_at st k ≡ level_of p k x))) o (h.offered k));
  caps = λ k. subst (λ (ws : List Level). IsTrue (level_le (slice_index_or ws k Inf) (slice_index_or other.caps k Inf))) w (c k);
  views = λ a k. subst (λ (ws : List Level). IsTrue (level_le (slice_index_or ws k Inf) (slice_index_or (view_at other a) k Inf))) w (subst (λ (vs : List (List Level)). IsTrue (level_le (word_at st k) (slice_index_or (slice_index_or vs a []) k Inf))) v (h.views a k));
}

-- a view after one of its caps becomes l, which is at least the word
view-set : (st : State) (a k : ℕ) (l : Level) (b j : ℕ) (w : Level) → IsTrue (level_le w (slice_index_or (view_at st b) j Inf)) → (j ≡ k → IsTrue (level_le w l)) → IsTrue (level_le w (slice_index_or (slice_index_or (slice_set st.views a (slice_set (view_at st a) k l)) b []) j Inf))
view-set st a k l b j w h g = elim (index-set st.views a (slice_set (view_at st a) k l) b []) [
  | inl q ↦ own q.0 q.1 (index-set (view_at st a) k l j Inf)
  | inr q ↦ subst (λ (v : List Level). IsTrue (level_le w (slice_index_or v j Inf))) (sym q) h
]
  where
    own : b ≡ a → slice_index_or (slice_set st.views a (slice_set (view_at st a) k l)) b [] ≡ slice_set (view_at st a) k l
        → ((j ≡ k) × (slice_index_or (slice_set (view_at st a) k l) j Inf ≡ l)) ⊎ (slice_index_or (slice_set (view_at st a) k l) j Inf ≡ slice_index_or (view_at st a) j Inf)
        → IsTrue (level_le w (slice_index_or (slice_index_or (slice_set st.views a (slice_set (view_at st a) k l)) b []) j Inf))
    own e q (inl r) = subst (λ (v : List Level). IsTrue (level_le w (slice_index_or v j Inf))) (sym q) (subst (λ (m : Level). IsTrue (level_le w m)) (sym r.1) (g r.0))
    own e q (inr r) = subst (λ (v : List Level). IsTrue (level_le w (slice_index_or v j Inf))) (sym q) (subst (λ (m : Level). IsTrue (level_le w m)) (sym r) (subst (λ (c : ℕ). IsTrue (level_le w (slice_index_or (view_at st c) j Inf))) e h))

WordsHold-look : (p : Problem) (st : State) (a k : ℕ) → WordsHold p st → WordsHold p (after p st (Look a k))
WordsHold-look p st a k h = record {
  many = h.many;
  feasible = h.feasible;
  least = h.least;
  offered = h.offered;
  caps = h.caps;
  views = λ b j. view-set st a k (word_at st k) b j (word_at st j) (h.views b j) (λ e. subst (λ (m : ℕ). IsTrue (level_le (word_at st j) (word_at st m))) e (level_le-refl (word_at st j)));
}

WordsHold-offer : (p : Problem) (st : State) (a k : ℕ) (x : List ℤ) → WordsHold p st → FeasibleFor p k x → WordsHold p (after p st (Offer a k x))
WordsHold-offer p st a k x h f = record {
  many = length-set st.words k l ∙ h.many;
  feasible = λ i j y e. elim (append-get st.offers ((k, x) ∷ []) i (j, y) e) [
    | inl q ↦ h.feasible i j y q
    | inr q ↦ (let s = one_offer q.0 j y q.2 in subst (λ (z : ℕ × List ℤ). FeasibleFor p z.0 z.1) s f)
  ];
  least = λ i j y e. elim (append-get st.offers ((k, x) ∷ []) i (j, y) e) [
    | inl q ↦ lowered j (level_of p j y) (h.least i j y q)
    | inr q ↦ (let s = one_offer q.0 j y q.2 in subst (λ (z : ℕ × List ℤ). IsTrue (level_le (slice_index_or words z.0 Inf) (level_of p z.0 z.1))) s (subst (λ (m : Level). IsTrue (level_le m (level_of p k x))) (sym at_k) (lesser-right (word_at st k) (level_of p k x))))
  ];
  offered = λ j. by_place j (index-set st.words k l j Inf);
  caps = λ j. lowered j (slice_index_or st.caps j Inf) (h.caps j);
  views = λ b j. view-set st a k l b j (slice_index_or words j Inf) (lowered j (slice_index_or (view_at st b) j Inf) (h.views b j)) (λ e. subst (λ (m : ℕ). IsTrue (level_le (slice_index_or words m Inf) l)) (sym e) (subst (λ (m : Level). IsTrue (level_le m l)) (sym at_k) (level_le-refl l)));
}
  where
    l : Level
    l = offered p st k x

    words : List Level
    words = slice_set st.words k (offered p st k x)

    known : k < length st.words
    known = let b : k < length p.scenarios = get-below p.scenarios k f.0 f.1 in omega (arith, h.many)

    at_k : slice_index_or (slice_set st.words k (offered p st k x)) k Inf ≡ offered p st k x
    at_k = get_or-set_same st.words k (offered p st k x) Inf known

    one_offer : (i j : ℕ) (y : List ℤ) → slice_get {X = ℕ × List ℤ} ((k, x) ∷ []) i ≡ Some (j, y) → ◌≡◌ {A = ℕ × List ℤ} (k, x) (j, y)
    one_offer zero j y e = cc
    one_offer (suc i) j y e = absurd (cc)

    lowered : (j : ℕ) (m : Level) → IsTrue (level_le (word_at st j) m) → IsTrue (level_le (slice_index_or (slice_set st.words k (offered p st k x)) j Inf) m)
    lowered j m g = elim (index-set st.words k (offered p st k x) j Inf) [
      | inl q ↦ subst (λ (w : Level). IsTrue (level_le w m)) (sym q.1) (lesser-le (word_at st k) (level_of p k x) m (subst (λ (n : ℕ). IsTrue (level_le (word_at st n) m)) q.0 g))
      | inr q ↦ subst (λ (w : Level). IsTrue (level_le w m)) (sym q) g
    ]

    by_place : (j : ℕ) → ((j ≡ k) × (slice_index_or (slice_set st.words k (offered p st k x)) j Inf ≡ offered p st k x)) ⊎ (slice_index_or (slice_set st.words k (offered p st k x)) j Inf ≡ slice_index_or st.words j Inf)
        → (slice_index_or (slice_set st.words k (offered p st k x)) j Inf ≡ Inf) ⊎ ((i : ℕ) × (y : List ℤ) × (slice_get (st.offers ++ (k, x) ∷ []) i ≡ Some (j, y)) × (slice_index_or (slice_set st.words k (offered p st k x)) j Inf ≡ level_of p j y))
    by_place j r = elim r [
      | inl q ↦ (elim (lesser-is (word_at st k) (level_of p k x)) [
        | inl e ↦ kept j q.0 (q.1 ∙ e) (h.offered k)
        | inr e ↦ inr (length st.offers, x, get-last st.offers (k, x) ∙ ap (λ (n : ℕ). Some (n, x)) (sym q.0), q.1 ∙ e ∙ ap (λ (n : ℕ). level_of p n x) (sym q.0))
      ])
      | inr q ↦ kept j refl q (h.offered j)
    ]
      where
        kept : (j : ℕ) {n : ℕ} → j ≡ n → slice_index_or (slice_set st.words k (offered p st k x)) j Inf ≡ word_at st n → (word_at st n ≡ Inf) ⊎ ((i : ℕ) × (y : List ℤ) × (slice_get st.offers i ≡ Some (n, y)) × (word_at st n ≡ level_of p n y))
            → (slice_index_or (slice_set st.words k (offered p st k x)) j Inf ≡ Inf) ⊎ ((i : ℕ) × (y : List ℤ) × (slice_get (st.offers ++ (k, x) ∷ []) i ≡ Some (j, y)) × (slice_index_or (slice_set st.words k (offered p st k x)) j Inf ≡ level_of p j y))
        kept j e w (inl q) = inl (w ∙ q)
        kept j e w (inr q) = inr (q.0, q.1, get-left st.offers ((k, x) ∷ []) q.0 _ q.2 ∙ ap (λ (m : ℕ). Some (m, q.1)) (sym e), w ∙ q.3 ∙ ap (λ (m : ℕ). level_of p m q.1) (sym e))

-- every event keeps the words
pub WordsHold-after : (p : Problem) (st : State) (e : Event) → WordsHold p st → Allowed p st e → WordsHold p (after p st e)
WordsHold-after p st (Claim a n) h w = WordsHold-caps p st (after p st (Claim a n)) h refl refl refl h.caps
WordsHold-after p st (Look a k) h w = WordsHold-look p st a k h
WordsHold-after p st (Offer a k x) h w = WordsHold-offer p st a k x h w.1
WordsHold-after p st (Note a) h w = WordsHold-caps p st (after p st (Note a)) h refl refl refl (λ k. le-lesser_each st.caps (view_at st a) k (word_at st k) (h.caps k) (h.views a k))
WordsHold-after p st (Settle a s) h w = WordsHold-caps p st (after p st (Settle a s)) h refl refl refl h.caps
WordsHold-after p st (GiveBack a) h w = WordsHold-caps p st (after p st (GiveBack a)) h refl refl refl h.caps
WordsHold-after p st (Sweep n) h w = WordsHold-caps p st (after p st (Sweep n)) h refl refl refl h.caps

index-replicate : (n k : ℕ) → ◌≡◌ {A = Level} (slice_index_or (replicate n Inf) k Inf) Inf
index-replicate zero k = refl
index-replicate (suc n) zero = refl
index-replicate (suc n) (suc k) = index-replicate n k

index-views : (m n a k : ℕ) → ◌≡◌ {A = Level} (slice_index_or (slice_index_or (replicate m (replicate n Inf)) a []) k Inf) Inf
index-views zero n a k = refl
index-views (suc m) n zero k = index-replicate n k
index-views (suc m) n (suc a) k = index-views m n a k

pub WordsHold-begin : (p : Problem) (actors : ℕ) → WordsHold p (begin p actors)
WordsHold-begin p actors = record {
  many = length-replicate (length p.scenarios) Inf;
  feasible = λ i k x e. absurd (cc);
  least = λ i k x e. absurd (cc);
  offered = λ k. inl (index-replicate (length p.scenarios) k);
  caps = λ k. level_le-refl (slice_index_or (replicate (length p.scenarios) Inf) k Inf);
  views = λ a k. subst (λ (l : Level). IsTrue (level_le (slice_index_or (replicate (length p.scenarios) Inf) k Inf) l)) (sym (index-views actors (length p.scenarios) a k)) (level_le-Inf (slice_index_or (replicate (length p.scenarios) Inf) k Inf));
}
