-- Verdicts of the live scenarios, one after another.
use Rattle.std.specs.Prelude.{◌≡◌, ℕ, zero, suc, ◌+◌, ◌<◌, ◌≤◌, List, [], ◌∷◌, ◌++◌, length, slice_get, slice_index_or, Bool, true, false, cond, ◌||◌, nat_eq, Option, Some, None, option_map, All, refl}
use Rattle.std.specs.List.{list_any}
use Rattle.std.specs.List.Sorted.{IsStrictlyIncreasing}
use Rattle.std.proofs.Common.{arith, ap, sym, ◌∙◌, subst, inl, inr}
use Rattle.std.proofs.lemmas.Bool.Decides.{nat_tests}
use native.Mathlib.Numerals.{unary_clauses}
use Rattle.int_model.specs.Boxes.{Box}
use Rattle.int_model.specs.Programs.{Program}
use Rattle.scenario_changes.specs.Problems.{Problem, program_at}
use Rattle.live_sets.specs.Members.{IsLiveList}
use Rattle.live_sets.proofs.RisingLists.{In, Rises, in_rising}
use Rattle.certs.specs.Levels.{greater_level}
use Rattle.certs.specs.Trees.{raised}
use Rattle.certs.specs.Verdicts.{judged}
use Rattle.certs.specs.declared.level.Level.{Level}
use Rattle.certs.specs.declared.verdict.Verdict.{Verdict}
use Rattle.certs.specs.declared.cert.Cert.{Cert}
use Rattle.certs.specs.Trees.{of_live}
use Rattle.node_work.specs.Probes.{Found, EachLive, IsGoodVerdict}
use Rattle.node_work.proofs.SetLemmas.{any_in}

-- ---- one more, and another fact

pub each-more : (P : ℕ → Verdict → Type 0) (live : List ℕ) (vs : List Verdict) (k : ℕ) (v : Verdict) → EachLive P live vs → P k v → EachLive P (live ++ k ∷ []) (vs ++ v ∷ [])
each-more P [] [] k v h g = (g, tt)
each-more P [] (w ∷ vs) k v h g = absurd h
each-more P (j ∷ live) [] k v h g = absurd h
each-more P (j ∷ live) (w ∷ vs) k v h g = (h.0, each-more P live vs k v h.1 g)

pub each-map : (P Q : ℕ → Verdict → Type 0) → ((k : ℕ) (v : Verdict) → P k v → Q k v) → (live : List ℕ) (vs : List Verdict) → EachLive P live vs → EachLive Q live vs
each-map P Q f [] [] h = tt
each-map P Q f [] (w ∷ vs) h = absurd h
each-map P Q f (j ∷ live) [] h = absurd h
each-map P Q f (j ∷ live) (w ∷ vs) h = (f j w h.0, each-map P Q f live vs h.1)

-- ---- rising lists

tail_rises : (x : ℕ) (xs : List ℕ) → IsStrictlyIncreasing (x ∷ xs) → IsStrictlyIncreasing xs
tail_rises x xs r k h = simp unary_clauses (simp unary_clauses at (r (suc k) (omega arith)))

rises_from_head : (x : ℕ) (xs : List ℕ) → IsStrictlyIncreasing (x ∷ xs) → Rises x (x ∷ xs)
rises_from_head x [] r = (omega arith, tt)
rises_from_head x (y ∷ ys) r =
    let rest : Rises y (y ∷ ys) = rises_from_head y ys (tail_rises x (y ∷ ys) r) in
    let step : x < y = r 0 (omega arith) in
    (omega arith, (omega arith, rest.1))

pub rises_from_zero : (xs : List ℕ) → IsStrictlyIncreasing xs → Rises 0 xs
rises_from_zero [] r = tt
rises_from_zero (x ∷ xs) r = (omega arith, (rises_from_head x xs r).1)

-- all are below a number
abbrev pub AllBelow : ℕ → List ℕ → Type 0
AllBelow n [] = Unit {0}
AllBelow n (x ∷ xs) = (x < n) × AllBelow n xs

pub all_below : (n : ℕ) (xs : List ℕ) → All (λ (x : ℕ). x < n) xs → AllBelow n xs
all_below n [] h = tt
all_below n (x ∷ xs) h = (h 0 0 (omega arith), all_below n xs (λ k d l. h (suc k) d (omega arith)))

-- a member of a rising list that starts there is its head
head_is : (k : ℕ) (xs : List ℕ) → Rises k xs → list_any (nat_eq k) xs ≡ true → (rest : List ℕ) × (xs ≡ k ∷ rest)
head_is k [] r e = absurd (cc)
head_is k (x ∷ xs) r e = by_place (any_in k (x ∷ xs) e)
  where
    by_place : In (x ∷ xs) k → (rest : List ℕ) × (x ∷ xs ≡ k ∷ rest)
    by_place (inl q) = (xs, ap (λ (n : ℕ). n ∷ xs) q)
    by_place (inr i) = absurd (omega (arith, r.0, in_rising (x + 1) k xs r.1 i))

above_is : (k : ℕ) (xs : List ℕ) → Rises k xs → list_any (nat_eq k) xs ≡ false → Rises (suc k) xs
above_is k [] r e = tt
above_is k (x ∷ xs) r e = by_test (nat_eq k x) refl e
  where
    by_test : (b : Bool) → nat_eq k x ≡ b → b || list_any (nat_eq k) xs ≡ false → Rises (suc k) (x ∷ xs)
    by_test true q f = absurd (cc)
    by_test false q f = (grind (arith, nat_tests, q, r.0), r.1)

other_than : (k i : ℕ) → suc k ≤ i → nat_eq i k ≡ false
other_than k i h = grind (arith, nat_tests)

-- ---- raised levels of good verdicts

module _ (p : Problem) (box : Box) (cert : Cert) (found : Found) where
  -- a level raised by a good verdict
  pub record IsRaisedBy (k : ℕ) (l r : Level) : Type 0 where
    pub verdict : Verdict
    pub good : IsGoodVerdict p box cert found k verdict
    pub is : r ≡ greater_level l good.level

  -- where a raised level comes from; the scenarios are counted from k
  abbrev pub ComesFrom : ℕ → List ℕ → List Level → List (Option Level) → Type 0
  ComesFrom k live ls rs = (i : ℕ) (r : Level) → slice_index_or rs i None ≡ Some r → (l : Level) × (slice_get ls i ≡ Some l) × (list_any (nat_eq (k + i)) live ≡ true) × IsRaisedBy (k + i) l r

  abbrev pub AreRaised : List Program → ℕ → List ℕ → List Level → List Verdict → Type 0
  AreRaised ss k live ls vs = (rs : List (Option Level)) × (raised box cert ss (of_live live k ls) vs ≡ Some rs) × ComesFrom k live ls rs

  some_same : {a b : Level} → ◌≡◌ {A = Option Level} (Some a) (Some b) → a ≡ b
  some_same e = cc

  skip : (s : Program) (ss : List Program) (k : ℕ) (l : Level) (ls : List Level) (live : List ℕ) (vs : List Verdict) → list_any (nat_eq k) live ≡ false → AreRaised ss (suc k) live ls vs → AreRaised (s ∷ ss) k live (l ∷ ls) vs
  skip s ss k l ls live vs e h = (None ∷ h.0, is, from)
    where
      is : raised box cert (s ∷ ss) (of_live live k (l ∷ ls)) vs ≡ Some (None ∷ h.0)
      is = ap (λ (b : Bool). raised box cert (s ∷ ss) (cond b (Some l) None ∷ of_live live (suc k) ls) vs) e ∙ ap (λ (o : Option (List (Option Level))). option_map (λ (rest : List (Option Level)). None ∷ rest) o) h.1

      from : ComesFrom k live (l ∷ ls) (None ∷ h.0)
      from zero r q = absurd (cc)
      from (suc i) r q =
          let t = h.2 i r q in
          let n : suc k + i ≡ k + suc i = omega arith in
          (t.0, t.1, subst (λ (j : ℕ). list_any (nat_eq j) live ≡ true) n t.2, subst (λ (j : ℕ). IsRaisedBy j t.0 r) n t.3)

  take_one : (s : Program) (ss : List Program) (k : ℕ) (l : Level) (ls : List Level) (live : List ℕ) (v : Verdict) (vs : List Verdict) → program_at p k ≡ s → list_any (nat_eq k) live ≡ true → IsGoodVerdict p box cert found k v → AreRaised ss (suc k) live ls vs → AreRaised (s ∷ ss) k live (l ∷ ls) (v ∷ vs)
  take_one s ss k l ls live v vs here e g h = (Some (greater_level l g.level) ∷ h.0, is, from)
    where
      valid : judged s box cert v ≡ Some g.level
      valid = subst (λ (t : Program). judged t box cert v ≡ Some g.level) here g.valid

      is : raised box cert (s ∷ ss) (of_live live k (l ∷ ls)) (v ∷ vs) ≡ Some (Some (greater_level l g.level) ∷ h.0)
      is = ap (λ (b : Bool). raised box cert (s ∷ ss) (cond b (Some l) None ∷ of_live live (suc k) ls) (v ∷ vs)) e ∙ rw (valid, h.1) refl

      from : ComesFrom k live (l ∷ ls) (Some (greater_level l g.level) ∷ h.0)
      from zero r q =
          let n : k ≡ k + 0 = omega arith in
          (l, refl, subst (λ (j : ℕ). list_any (nat_eq j) live ≡ true) n e, subst (λ (j : ℕ). IsRaisedBy j l r) n (record { verdict = v; good = g; is = some_same (sym q) }))
      from (suc i) r q =
          let t = h.2 i r q in
          let n : suc k + i ≡ k + suc i = omega arith in
          (t.0, t.1, subst (λ (j : ℕ). list_any (nat_eq j) live ≡ true) n t.2, subst (λ (j : ℕ). IsRaisedBy j t.0 r) n t.3)

  -- the programs from k on
  abbrev pub ArePrograms : ℕ → List Program → Type 0
  ArePrograms k [] = Unit {0}
  ArePrograms k (s ∷ ss) = (program_at p k ≡ s) × ArePrograms (suc k) ss

  each_raised : (ss : List Program) (k : ℕ) → ArePrograms k ss → (ls : List Level) → length ls ≡ length ss → (live rest : List ℕ) → ((i : ℕ) → k ≤ i → list_any (nat_eq i) live ≡ list_any (nat_eq i) rest) → Rises k rest → AllBelow (k + length ss) rest → (vs : List Verdict) → EachLive (IsGoodVerdict p box cert found) rest vs → AreRaised ss k live ls vs
  each_raised [] k are (l ∷ ls) n live rest same rises below vs h = absurd (omega arith)
  each_raised [] k are [] n live (x ∷ rest) same rises below vs h = absurd (omega (arith, rises.0, below.0))
  each_raised [] k are [] n live [] same rises below (v ∷ vs) h = absurd h
  each_raised [] k are [] n live [] same rises below [] h = ([], refl, λ i r q. absurd (cc))
  each_raised (s ∷ ss) k are [] n live rest same rises below vs h = absurd (omega arith)
  each_raised (s ∷ ss) k are (l ∷ ls) n live rest same rises below vs h = by_test (list_any (nat_eq k) live) refl (λ others ws m r b g. each_raised ss (suc k) are.1 ls (omega arith) live others m r b ws g)
    where
      long : suc k + length ss ≡ k + length (s ∷ ss)
      long = omega arith

      by_head : list_any (nat_eq k) live ≡ true → (others : List ℕ) (ws : List Verdict) → EachLive (IsGoodVerdict p box cert found) (k ∷ others) ws → Rises k (k ∷ others) → AllBelow (k + length (s ∷ ss)) (k ∷ others) → ((i : ℕ) → suc k ≤ i → list_any (nat_eq i) live ≡ list_any (nat_eq i) others) → ((others : List ℕ) (ws : List Verdict) → ((i : ℕ) → suc k ≤ i → list_any (nat_eq i) live ≡ list_any (nat_eq i) others) → Rises (suc k) others → AllBelow (suc k + length ss) others → EachLive (IsGoodVerdict p box cert found) others ws → AreRaised ss (suc k) live ls ws) → AreRaised (s ∷ ss) k live (l ∷ ls) ws
      by_head e others [] g r b m after = absurd g
      by_head e others (w ∷ ws) g r b m after =
          let up : k + 1 ≡ suc k = omega arith in
          take_one s ss k l ls live w ws are.0 e g.0 (after others ws m (subst (λ (x : ℕ). Rises x others) up r.1) (subst (λ (x : ℕ). AllBelow x others) (sym long) b.1) g.1)

      by_test : (b : Bool) → list_any (nat_eq k) live ≡ b → ((others : List ℕ) (ws : List Verdict) → ((i : ℕ) → suc k ≤ i → list_any (nat_eq i) live ≡ list_any (nat_eq i) others) → Rises (suc k) others → AllBelow (suc k + length ss) others → EachLive (IsGoodVerdict p box cert found) others ws → AreRaised ss (suc k) live ls ws) → AreRaised (s ∷ ss) k live (l ∷ ls) vs
      by_test false e after = skip s ss k l ls live vs e (after rest vs (λ i m. same i (omega arith)) (above_is k rest rises (sym (same k (omega arith)) ∙ e)) (subst (λ (m : ℕ). AllBelow m rest) (sym long) below) h)
      by_test true e after =
          let head = head_is k rest rises (sym (same k (omega arith)) ∙ e) in
          by_head e head.0 vs
          (subst (λ (xs : List ℕ). EachLive (IsGoodVerdict p box cert found) xs vs) head.1 h)
          (subst (λ (xs : List ℕ). Rises k xs) head.1 rises)
          (subst (λ (xs : List ℕ). AllBelow (k + length (s ∷ ss)) xs) head.1 below)
          (λ i m. same i (omega arith) ∙ ap (λ (xs : List ℕ). list_any (nat_eq i) xs) head.1 ∙ ap (λ (b : Bool). b || list_any (nat_eq i) head.0) (other_than k i m))
          after

  are_programs : (ss : List Program) (k : ℕ) → ((i : ℕ) (s : Program) → slice_get ss i ≡ Some s → program_at p (k + i) ≡ s) → ArePrograms k ss
  are_programs [] k h = tt
  are_programs (s ∷ ss) k h =
      let n : k + 0 ≡ k = omega arith in
      (subst (λ (j : ℕ). program_at p j ≡ s) n (h 0 s refl), are_programs ss (suc k) (λ i t e. let m : k + suc i ≡ suc k + i = omega arith in subst (λ (j : ℕ). program_at p j ≡ t) m (h (suc i) t e)))

  program_here : (ss : List Program) (k : ℕ) (d s : Program) → slice_get ss k ≡ Some s → slice_index_or ss k d ≡ s
  program_here [] k d s e = absurd (cc)
  program_here (t ∷ ss) zero d s e = cc
  program_here (t ∷ ss) (suc k) d s e = program_here ss k d s e

  pub all_raised : (live : List ℕ) (ls : List Level) (vs : List Verdict) → IsLiveList live → All (λ (s : ℕ). s < length p.scenarios) live → length ls ≡ length p.scenarios → EachLive (IsGoodVerdict p box cert found) live vs → AreRaised p.scenarios 0 live ls vs
  all_raised live ls vs set below n h =
      let zero_more : length p.scenarios ≡ 0 + length p.scenarios = omega arith in
      each_raised p.scenarios 0 (are_programs p.scenarios 0 (λ i s e. let m : i ≡ 0 + i = omega arith in subst (λ (j : ℕ). program_at p j ≡ s) m (program_here p.scenarios i _ s e))) ls n live live (λ i m. refl) (rises_from_zero live set.rising) (subst (λ (m : ℕ). AllBelow m live) zero_more (all_below (length p.scenarios) live below)) vs h
