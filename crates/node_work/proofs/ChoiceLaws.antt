-- How the strongest verdict comes about, and what it tells.
use Rattle.std.specs.Prelude.{◌≡◌, ℕ, zero, suc, ◌<◌, ◌≤◌, ℤ, List, [], ◌∷◌, ◌++◌, length, slice_get, Bool, true, false, cond, Option, Some, None, IfSome, option_and_then, IsTrue, nat_lt, refl, ◌⊎◌}
use Rattle.std.proofs.Common.{arith, ap, sym, ◌∙◌, subst, inl, inr}
use Rattle.std.proofs.lemmas.Bool.Decides.{nat_tests}
use Rattle.int_model.specs.Boxes.{Box, is_single}
use Rattle.int_model.specs.Programs.{Program, Feasible, value}
use Rattle.tighten.specs.Replay.{replay}
use Rattle.dual_bounds.specs.Vectors.{Multipliers, program_bound}
use Rattle.scenario_changes.specs.Problems.{Problem, program_at}
use Rattle.certs.specs.Levels.{level_le}
use Rattle.certs.specs.Trees.{some_row_misses}
use Rattle.certs.specs.Verdicts.{judged, level_over, level_on, bound_level, farkas_level}
use Rattle.certs.specs.declared.level.Level.{Level}
use Rattle.certs.specs.declared.level.Level.TheVariants.{Value, Inf}
use Rattle.certs.specs.declared.verdict.Verdict.{Verdict}
use Rattle.certs.specs.declared.verdict.Verdict.TheVariants.{Point, Bound}
use Rattle.certs.specs.declared.cert.Cert.{Cert}
use Rattle.certs.proofs.TreeLaws.{stayer_box-is}
use Rattle.node_work.specs.Probes.{Found, EachLive, AreFound, IsGoodVerdict, IsBestVerdict, lows_of}
use Rattle.node_work.specs.Choices.{IsChosen, IsWeaker, IsStronger, IsStrongest, IsConcluded, IsKept, ReachesBounds, single_choice, first_choice, choice_by}
use Rattle.node_work.specs.declared.verdicts.Choice.{Choice}
use Rattle.node_work.proofs.LiveLists.{each-more, each-map}
use Rattle.node_work.proofs.LevelOrder.{le_trans, le_same, le_inf}

some_same : {X : Type 0} {a b : X} → ◌≡◌ {A = Option X} (Some a) (Some b) → a ≡ b
some_same e = cc

-- ---- the stronger of two

pub stronger_first : (first : Choice) (o : Option Choice) (c : Choice) → IsStronger first o c → IsWeaker first c
stronger_first first None c h = ap (λ (z : Choice). level_le first.level z.level) h ∙ le_same first.level
stronger_first first (Some second) c h = h.1

stronger_second : (first : Choice) (o : Option Choice) (c second : Choice) → IsStronger first o c → o ≡ Some second → IsWeaker second c
stronger_second first None c second h e = absurd (cc)
stronger_second first (Some other) c second h e = subst (λ (z : Choice). IsWeaker z c) (some_same e) h.2

stronger_chosen : (p : Program) (vectors : List Multipliers) (part : Box) (first : Choice) (o : Option Choice) (c : Choice) → IsStronger first o c → IsChosen p vectors part first → IfSome o (λ (z : Choice). level_over p vectors z.verdict part ≡ Some z.level) → IsChosen p vectors part c
stronger_chosen p vectors part first None c h f g = subst (λ (z : Choice). IsChosen p vectors part z) (sym h) f
stronger_chosen p vectors part first (Some second) c h f g = elim h.0 [
  | inl e ↦ subst (λ (z : Choice). IsChosen p vectors part z) (sym e) f
  | inr e ↦ subst (λ (z : Choice). IsChosen p vectors part z) (sym e) g
]

single_chosen : (p : Program) (vectors : List Multipliers) (part : Box) → IfSome (single_choice p part) (λ (z : Choice). level_over p vectors z.verdict part ≡ Some z.level)
single_chosen p vectors part = by_test (is_single part) refl
  where
    by_test : (b : Bool) → is_single part ≡ b → IfSome (cond b (Some (record { verdict = Point; level = Value (value p (lows_of part)) })) None) (λ (z : Choice). level_over p vectors z.verdict part ≡ Some z.level)
    by_test true e = ap (λ (b : Bool). cond b (Some (Value (value p (lows_of part)))) None) e
    by_test false e = tt

get_two : (vectors : List Multipliers) (i : ℕ) (v : Multipliers) → length vectors ≤ 2 → slice_get vectors i ≡ Some v → (i ≡ 0) ⊎ (i ≡ 1)
get_two [] i v n e = absurd (cc)
get_two (a ∷ vectors) zero v n e = inl refl
get_two (a ∷ []) (suc i) v n e = absurd (cc)
get_two (a ∷ b ∷ vectors) (suc zero) v n e = inr refl
get_two (a ∷ b ∷ []) (suc (suc i)) v n e = absurd (cc)
get_two (a ∷ b ∷ d ∷ vectors) (suc (suc i)) v n e = absurd (omega arith)

-- what vector k shows
abbrev pub ShowsBound : Program → List Multipliers → Box → ℕ → Option Choice → Type 0
ShowsBound p vectors part k o = (v : Multipliers) → slice_get vectors k ≡ Some v → 0 < v.scale → o ≡ Some (record { verdict = Bound k; level = Value (program_bound p v part) })

pub strongest_is : (p : Program) (vectors : List Multipliers) (part : Box) (o : Option Choice) (first : Choice) (second : Option Choice) (best c : Choice) → length vectors ≤ 2 → o ≡ Some first
    → IfSome o (λ (z : Choice). level_over p vectors z.verdict part ≡ Some z.level) → ShowsBound p vectors part 0 o
    → IfSome second (λ (z : Choice). level_over p vectors z.verdict part ≡ Some z.level) → ShowsBound p vectors part 1 second
    → IsStronger first second best → IsStronger best (single_choice p part) c → IsStrongest p vectors part c
strongest_is p vectors part o first second best c n is a f b g s t = record {
  chosen = stronger_chosen p vectors part best (single_choice p part) c t (stronger_chosen p vectors part first second best s (subst (λ (z : Option Choice). IfSome z (λ (y : Choice). level_over p vectors y.verdict part ≡ Some y.level)) is a) b) (single_chosen p vectors part);
  bounds = λ i v e l. elim (get_two vectors i v n e) [
    | inl q ↦ (let r : first ≡ record { verdict = Bound 0; level = Value (program_bound p v part) } = some_same (sym is ∙ f v (ap (slice_get vectors) (sym q) ∙ e) l) in
        le_trans (Value (program_bound p v part)) best.level c.level (subst (λ (z : Choice). IsWeaker z best) r (stronger_first first second best s)) (stronger_first best (single_choice p part) c t))
    | inr q ↦ (le_trans (Value (program_bound p v part)) best.level c.level (stronger_second first second best (record { verdict = Bound 1; level = Value (program_bound p v part) }) s (g v (ap (slice_get vectors) (sym q) ∙ e) l)) (stronger_first best (single_choice p part) c t))
  ];
  single = λ e. stronger_second best (single_choice p part) c (record { verdict = Point; level = Value (value p (lows_of part)) }) t (ap (λ (b : Bool). cond b (Some (record { verdict = Point; level = Value (value p (lows_of part)) })) None) e);
}

-- ---- what a vector shows

shown_valid : (p : Program) (vectors : List Multipliers) (part : Box) (k : ℕ) (o : Option Choice) → o ≡ choice_by p part k (slice_get vectors k) → IfSome o (λ (z : Choice). level_over p vectors z.verdict part ≡ Some z.level)
shown_valid p vectors part k o e = subst (λ (a : Option Choice). IfSome a (λ (z : Choice). level_over p vectors z.verdict part ≡ Some z.level)) (sym e) (by_vector (slice_get vectors k) refl)
  where
    by_levels : (v : Multipliers) → slice_get vectors k ≡ Some v → (a b : Option Level) → bound_level p part v ≡ a → farkas_level p part v ≡ b → IfSome (first_choice k a b) (λ (z : Choice). level_over p vectors z.verdict part ≡ Some z.level)
    by_levels v q (Some l) b r s = ap (option_and_then (bound_level p part)) q ∙ r
    by_levels v q None (Some l) r s = ap (option_and_then (farkas_level p part)) q ∙ s
    by_levels v q None None r s = tt

    by_vector : (a : Option Multipliers) → slice_get vectors k ≡ a → IfSome (choice_by p part k a) (λ (z : Choice). level_over p vectors z.verdict part ≡ Some z.level)
    by_vector None q = tt
    by_vector (Some v) q = by_levels v q (bound_level p part v) (farkas_level p part v) refl refl

shown_bound : (p : Program) (vectors : List Multipliers) (part : Box) (k : ℕ) (o : Option Choice) → o ≡ choice_by p part k (slice_get vectors k) → ShowsBound p vectors part k o
shown_bound p vectors part k o e v q l =
    let positive : nat_lt 0 v.scale ≡ true = grind (arith, nat_tests) in
    e ∙ ap (choice_by p part k) q ∙ ap (λ (b : Bool). first_choice k (cond b (Some (Value (program_bound p v part))) None) (farkas_level p part v)) positive

pub strongest_by : (p : Program) (vectors : List Multipliers) (part : Box) (o : Option Choice) (first : Choice) (second : Option Choice) (best : Choice) (single : Option Choice) (c : Choice) → length vectors ≤ 2 → o ≡ Some first → o ≡ choice_by p part 0 (slice_get vectors 0) → second ≡ choice_by p part 1 (slice_get vectors 1) → IsStronger first second best → single ≡ single_choice p part → IsStronger best single c → IsStrongest p vectors part c
strongest_by p vectors part o first second best single c n is a b s e t =
    strongest_is p vectors part o first second best c n is (shown_valid p vectors part 0 o a) (shown_bound p vectors part 0 o a) (shown_valid p vectors part 1 second b) (shown_bound p vectors part 1 second b) s (subst (λ (z : Option Choice). IsStronger best z c) e t)

-- ---- what is concluded of a scenario

module _ (p : Problem) (box : Box) (cert : Cert) (k : ℕ) where
  -- a verdict of the level Inf
  pub conclude_refused : (now : Box) (v : Verdict) → judged (program_at p k) box cert v ≡ Some Inf → IsConcluded p box cert k (record { verdict = v; level = Inf }) false now
  conclude_refused now v e = record {
    valid = e;
    missed = λ part r m. refl;
    single = λ part r s. inl refl;
    best = λ part r i w a b. le_inf (Value (program_bound (program_at p k) w part));
    feasible = λ q. absurd (cc);
  }

  -- no row misses it
  pub conclude_strongest : (now : Box) (c : Choice) (is_point : Bool) → replay (program_at p k) cert.steps box ≡ Some now → some_row_misses (program_at p k) p.rows now ≡ false → IsStrongest (program_at p k) cert.vectors now c → is_point ≡ is_single now → (is_single now ≡ true → Feasible (program_at p k) (lows_of now)) → IsConcluded p box cert k c is_point now
  conclude_strongest now c is_point r m s is feasible = record {
    valid = ap (level_on (program_at p k) cert.vectors c.verdict) r ∙ s.chosen;
    missed = λ part q n. absurd (let t : false ≡ true = sym m ∙ ap (λ (b : Box). some_row_misses (program_at p k) p.rows b) (same part q) ∙ n in cc);
    single = λ part q one. inr (record {
      is_found = is ∙ ap is_single (same part q) ∙ one;
      here = same part q;
      at_most = subst (λ (b : Box). IsTrue (level_le (Value (value (program_at p k) (lows_of b))) c.level)) (same part q) (s.single (ap is_single (same part q) ∙ one));
    });
    best = λ part q. subst (λ (b : Box). ReachesBounds (program_at p k) cert.vectors b c.level) (same part (stayer_box-is p box cert (program_at p k) part q)) s.bounds;
    feasible = λ q. feasible (sym is ∙ q);
  }
    where
      same : (part : Box) → replay (program_at p k) cert.steps box ≡ Some part → now ≡ part
      same part q = some_same (sym r ∙ q)

  -- ---- the verdict

  pub best-verdict : (c : Choice) (is_point : Bool) (now : Box) → IsConcluded p box cert k c is_point now → IsBestVerdict p box cert k c.verdict
  best-verdict c is_point now h = λ level part i v e r g l. subst (λ (m : Level). IsTrue (level_le (Value (program_bound (program_at p k) v part)) m)) (some_same (sym h.valid ∙ e)) (h.best part r i v g l)

-- ---- points that are found

get_more : (xs : Found) (y : ℕ × List ℤ) (i : ℕ) (x : ℕ × List ℤ) → slice_get xs i ≡ Some x → slice_get (xs ++ y ∷ []) i ≡ Some x
get_more [] y i x e = absurd (cc)
get_more (z ∷ xs) y zero x e = e
get_more (z ∷ xs) y (suc i) x e = get_more xs y i x e

get_last : (xs : Found) (y : ℕ × List ℤ) → slice_get (xs ++ y ∷ []) (length xs) ≡ Some y
get_last [] y = refl
get_last (z ∷ xs) y = get_last xs y

get_either : (xs : Found) (y : ℕ × List ℤ) (i : ℕ) (x : ℕ × List ℤ) → slice_get (xs ++ y ∷ []) i ≡ Some x → (slice_get xs i ≡ Some x) ⊎ (y ≡ x)
get_either [] y zero x e = inr (some_same e)
get_either [] y (suc i) x e = absurd (cc)
get_either (z ∷ xs) y zero x e = inl e
get_either (z ∷ xs) y (suc i) x e = get_either xs y i x e

-- each point that was found is found still
kept_there : (old new : Found) (k : ℕ) (x : List ℤ) (is_point : Bool) → IsKept old k x is_point new → (i : ℕ) (y : ℕ × List ℤ) → slice_get old i ≡ Some y → slice_get new i ≡ Some y
kept_there old new k x true h i y e = ap (λ (xs : Found). slice_get xs i) h ∙ get_more old (k, x) i y e
kept_there old new k x false h i y e = ap (λ (xs : Found). slice_get xs i) h ∙ e

kept_new : (old new : Found) (k : ℕ) (x : List ℤ) (is_point : Bool) → IsKept old k x is_point new → is_point ≡ true → slice_get new (length old) ≡ Some (k, x)
kept_new old new k x true h e = ap (λ (xs : Found). slice_get xs (length old)) h ∙ get_last old (k, x)
kept_new old new k x false h e = absurd (cc)

pub kept_found : (p : Problem) (old new : Found) (k : ℕ) (x : List ℤ) (is_point : Bool) → IsKept old k x is_point new → AreFound p old → (is_point ≡ true → Feasible (program_at p k) x) → AreFound p new
kept_found p old new k x false h a f = subst (λ (xs : Found). AreFound p xs) (sym h) a
kept_found p old new k x true h a f = subst (λ (xs : Found). AreFound p xs) (sym h) (λ i j y e. elim (get_either old (k, x) i (j, y) e) [
  | inl q ↦ a i j y q
  | inr q ↦ (let s : k ≡ j = ap (λ (t : ℕ × List ℤ). t.0) q in let r : x ≡ y = ap (λ (t : ℕ × List ℤ). t.1) q in subst (λ (m : ℕ). Feasible (program_at p m) y) s (subst (λ (z : List ℤ). Feasible (program_at p k) z) r (f refl)))
])

pub good-still : (p : Problem) (box : Box) (cert : Cert) (old new : Found) (k : ℕ) (x : List ℤ) (is_point : Bool) → IsKept old k x is_point new → (j : ℕ) (v : Verdict) → IsGoodVerdict p box cert old j v → IsGoodVerdict p box cert new j v
good-still p box cert old new k x is_point h j v g = record {
  level = g.level;
  valid = g.valid;
  missed = g.missed;
  single = λ part r s. elim (g.single part r s) [
    | inl e ↦ inl e
    | inr t ↦ inr (record { place = t.place; there = kept_there old new k x is_point h t.place (j, lows_of part) t.there; at_most = t.at_most })
  ];
}

pub good-verdict : (p : Problem) (box : Box) (cert : Cert) (old new : Found) (k : ℕ) (c : Choice) (is_point : Bool) (now : Box) → IsConcluded p box cert k c is_point now → IsKept old k (lows_of now) is_point new → IsGoodVerdict p box cert new k c.verdict
good-verdict p box cert old new k c is_point now h g = record {
  level = c.level;
  valid = h.valid;
  missed = h.missed;
  single = λ part r s. elim (h.single part r s) [
    | inl e ↦ inl e
    | inr t ↦ inr (record {
      place = length old;
      there = kept_new old new k (lows_of now) is_point g t.is_found ∙ ap (λ (b : Box). Some (k, lows_of b)) t.here;
      at_most = t.at_most;
    })
  ];
}

-- ---- one scenario more

pub good-next : (p : Problem) (box : Box) (cert : Cert) (live : List ℕ) (vs ws : List Verdict) (old new : Found) (k : ℕ) (c : Choice) (is_point : Bool) (now : Box) → EachLive (IsGoodVerdict p box cert old) live vs → IsConcluded p box cert k c is_point now → IsKept old k (lows_of now) is_point new → ws ≡ vs ++ c.verdict ∷ [] → EachLive (IsGoodVerdict p box cert new) (live ++ k ∷ []) ws
good-next p box cert live vs ws old new k c is_point now h g i e =
    subst (λ (us : List Verdict). EachLive (IsGoodVerdict p box cert new) (live ++ k ∷ []) us) (sym e)
    (each-more (IsGoodVerdict p box cert new) live vs k c.verdict (each-map (IsGoodVerdict p box cert old) (IsGoodVerdict p box cert new) (good-still p box cert old new k (lows_of now) is_point i) live vs h) (good-verdict p box cert old new k c is_point now g i))

pub best-next : (p : Problem) (box : Box) (cert : Cert) (live : List ℕ) (vs ws : List Verdict) (k : ℕ) (c : Choice) (is_point : Bool) (now : Box) → EachLive (IsBestVerdict p box cert) live vs → IsConcluded p box cert k c is_point now → ws ≡ vs ++ c.verdict ∷ [] → EachLive (IsBestVerdict p box cert) (live ++ k ∷ []) ws
best-next p box cert live vs ws k c is_point now h g e =
    subst (λ (us : List Verdict). EachLive (IsBestVerdict p box cert) (live ++ k ∷ []) us) (sym e)
    (each-more (IsBestVerdict p box cert) live vs k c.verdict h (best-verdict p box cert k c is_point now g))
