-- Finders are made of a master's seat, and put together.
use Rattle.std.proofs.Common.{◌≡◌, ℕ, zero, suc, ◌+◌, ◌<◌, min, List, [], ◌∷◌, ◌++◌, length, get_or, map, All, Bool, true, false, cond, refl, sym, ap, ◌∙◌, subst, arith, eq-eqb}
use native.Mathlib.Decide.{ℕ_discrete}
use Rattle.scenario_changes.specs.Problems.{Scenarios}
use Rattle.atomic_table.specs.Seated.{TableId}
use Rattle.incumbent_words.specs.declared.view.View.{View}
use Rattle.incumbent_words.specs.Rule.{code_at, times, weight, count_in, numbered, either_leads, joined, one_more, member_of, HasAll}
use Rattle.incumbent_words.proofs.Moves.{times-append}
use Rattle.finder.specs.Found.{Found, IsSound, scenario_count}
use Rattle.alone_run.specs.Turns.{IsNoWorse}
use Rattle.crew.specs.declared.work.Worker.{Worker}
use Rattle.crew.specs.Crews.{IsOf, IsAsGood, HaveAll, HasGiven, total}

-- ---- lists

pub last_of : {X : Type 0} (P : X → Type 0) (ys : List X) (x : X) → All P (ys ++ x ∷ []) → P x
last_of P [] x h = h 0 x (omega arith)
last_of P (y ∷ ys) x h = last_of P ys x (λ k d lt. h (suc k) d (omega arith))

pub front_of : {X : Type 0} (P : X → Type 0) (ys : List X) (x : X) → All P (ys ++ x ∷ []) → All P ys
front_of P [] x h k d lt = absurd (omega arith)
front_of P (y ∷ ys) x h zero d lt = h 0 d (omega arith)
front_of P (y ∷ ys) x h (suc k) d lt = front_of P ys x (λ i e l. h (suc i) e (omega arith)) k d (omega arith)

pub all_snoc : {X : Type 0} (P : X → Type 0) (xs : List X) (x : X) → All P xs → P x → All P (xs ++ x ∷ [])
all_snoc P [] x h p zero d lt = p
all_snoc P [] x h p (suc k) d lt = absurd (omega arith)
all_snoc P (y ∷ ys) x h p zero d lt = h 0 d (omega arith)
all_snoc P (y ∷ ys) x h p (suc k) d lt = all_snoc P ys x (λ i e l. h (suc i) e (omega arith)) p k d (omega arith)

pub all_cons : {X : Type 0} (P : X → Type 0) (x : X) (xs : List X) → P x → All P xs → All P (x ∷ xs)
all_cons P x xs p h zero d lt = p
all_cons P x xs p h (suc k) d lt = h k d (omega arith)

pub head_of : {X : Type 0} (P : X → Type 0) (x : X) (xs : List X) → All P (x ∷ xs) → P x
head_of P x xs h = h 0 x (omega arith)

pub tail_of : {X : Type 0} (P : X → Type 0) (x : X) (xs : List X) → All P (x ∷ xs) → All P xs
tail_of P x xs h k d lt = h (suc k) d (omega arith)

length_snoc : {X : Type 0} (xs : List X) (x : X) → length (xs ++ x ∷ []) ≡ length xs + 1
length_snoc [] x = omega arith
length_snoc (y ∷ xs) x = let r = length_snoc xs x in omega arith

pub length_then : {X : Type 0} (xs ys : List X) (x : X) → ys ≡ xs ++ x ∷ [] → length ys ≡ length xs + 1
length_then xs ys x e = ap (λ l. length l) e ∙ length_snoc xs x

pub all_none : {X : Type 0} (P : X → Type 0) (xs : List X) → length xs ≡ 0 → All P xs
all_none P xs e k d lt = absurd (omega (arith, e, lt))

-- ---- what all of them have

total-snoc : (f : View → ℕ) (ys : List Found) (x : Found) → total f (ys ++ x ∷ []) ≡ total f ys + f x.seat.view
total-snoc f [] x = omega arith
total-snoc f (y ∷ ys) x = let r = total-snoc f ys x in omega arith

pub turned : (ys : List Found) (x : Found) → HaveAll (ys ++ x ∷ []) → HaveAll (x ∷ ys)
turned ys x h = record {
  leads = (let t = total-snoc weight ys x in let l = h.leads in omega arith);
  numbers = λ n lt. (let t = total-snoc count_in ys x in let u = total-snoc (numbered n) ys x in let k = h.numbers n (omega arith) in omega arith);
}

weigh-some : (a b : Bool) → 0 < cond a 1 0 + cond b 1 0 → 0 < cond (either_leads a b) 1 0
weigh-some true b h = omega arith
weigh-some false b h = omega arith

pub merged : (a x m : Found) (ys : List Found) → m.seat.view ≡ joined a.seat.view x.seat.view → HaveAll (a ∷ (ys ++ x ∷ [])) → HaveAll (m ∷ ys)
merged a x m ys is h =
    let v = a.seat.view in
    let w = x.seat.view in
    record {
      leads =
          let t = total-snoc weight ys x in
          let l = h.leads in
          let e : weight m.seat.view ≡ weight (joined v w) = ap weight is in
          some_leads v w (total weight ys) (weight m.seat.view) e (omega arith);
      numbers = λ n lt.
          let t = total-snoc count_in ys x in
          let u = total-snoc (numbered n) ys x in
          let c : count_in m.seat.view ≡ v.count + w.count = ap count_in is in
          let d : numbered n m.seat.view ≡ times n v.numbers + times n w.numbers = ap (numbered n) is ∙ times-append n v.numbers w.numbers in
          let k = h.numbers n (omega arith) in omega arith;
    }
  where
    some_leads : (v w : View) (r k : ℕ) → k ≡ weight (joined v w) → 0 < (weight v + weight w) + r → 0 < k + r
    some_leads v w zero k e h = let p = weigh-some v.leads w.leads (omega arith) in omega (arith, p, e)
    some_leads v w (suc r) k e h = omega arith

leads-true : (b : Bool) → 0 < cond b 1 0 → b ≡ true
leads-true true h = refl
leads-true false h = absurd (omega arith)

pub has_all : (a : Found) → HaveAll (a ∷ []) → HasAll a.seat.view
has_all a h = (leads-true a.seat.view.leads (let l = h.leads in omega arith), λ n lt. (let k = h.numbers n (omega arith) in omega arith))

-- ---- best values

pub as_good_self : (f : Found) → IsAsGood f f
as_good_self f = record { problem = refl; best = λ k. omega arith }

pub as_good_then : (f g h : Found) → IsAsGood f g → IsAsGood g h → IsAsGood f h
as_good_then f g h a b = record { problem = a.problem ∙ b.problem; best = λ k. omega (arith, a.best k, b.best k) }

pub merged_good : (a x m : Found) → m.problem ≡ a.problem → x.problem ≡ a.problem → ((k : ℕ) → code_at m.seat.view.offers k ≡ min (code_at a.seat.view.offers k) (code_at x.seat.view.offers k)) → IsAsGood m a × IsAsGood m x
merged_good a x m p q h = (record { problem = p; best = λ k. omega (arith, h k) }, record { problem = p ∙ sym q; best = λ k. omega (arith, h k) })

-- who is as good as the merged finder and the others is as good as all
pub all_merged : (f a x m : Found) (ys : List Found) → IsAsGood m a × IsAsGood m x → All (IsAsGood f) (m ∷ ys) → All (IsAsGood f) (a ∷ (ys ++ x ∷ []))
all_merged f a x m ys good h =
    let top = head_of (IsAsGood f) m ys h in
    all_cons (IsAsGood f) a (ys ++ x ∷ []) (as_good_then f m a top good.0) (all_snoc (IsAsGood f) ys x (tail_of (IsAsGood f) m ys h) (as_good_then f m x top good.1))

-- the words have one for each scenario, as the first finder's type keeps
pub words_fit : (z : TableId) (p : Scenarios) (fs : List Found) → All (IsOf z p) fs → All IsSound fs → 0 < length fs → z.words ≡ scenario_count p
words_fit z p [] of sound some = absurd (omega arith)
words_fit z p (f ∷ fs) of sound some =
    let o = head_of (IsOf z p) f fs of in
    let s = head_of IsSound f fs sound in
    ap (λ t. t.words) (sym o.0) ∙ (s.words ∙ ap scenario_count o.1)

-- ---- what workers gave back

same_totals : (f : View → ℕ) (fs gs : List Found) → length gs ≡ length fs → ((k : ℕ) (d : Found) → k < length fs → f (get_or gs k d).seat.view ≡ f (get_or fs k d).seat.view) → total f gs ≡ total f fs
same_totals f [] [] e h = refl
same_totals f [] (y ∷ ys) e h = absurd (omega arith)
same_totals f (x ∷ xs) [] e h = absurd (omega arith)
same_totals f (x ∷ xs) (y ∷ ys) e h =
    let a = h 0 x (omega arith) in
    let r = same_totals f xs ys (omega arith) (λ k d lt. h (suc k) d (omega arith)) in omega arith

same_all : (fs gs : List Found) → length gs ≡ length fs → ((k : ℕ) (d : Found) → k < length fs → IsNoWorse (get_or fs k d) (get_or gs k d)) → HaveAll fs → HaveAll gs
same_all fs gs e h all =
    let leads = same_totals weight fs gs e (λ k d lt. ap (λ (b : Bool). cond b 1 0) (h k d lt).same.leads) in
    let count = same_totals count_in fs gs e (λ k d lt. (h k d lt).same.count) in
    record {
      leads = (let l = all.leads in omega arith);
      numbers = λ n lt. (let u = same_totals (numbered n) fs gs e (λ k d l. ap (times n) (h k d l).same.numbers) in let k = all.numbers n (omega arith) in omega arith);
    }

finder_at : (ws : List Worker) (k : ℕ) (d : Worker) → (get_or ws k d).finder ≡ get_or (map (λ w. w.finder) ws) k d.finder
finder_at [] k d = refl
finder_at (w ∷ ws) zero d = refl
finder_at (w ∷ ws) (suc k) d = finder_at ws k d

length_finders : (ws : List Worker) → length (map (λ (w : Worker). w.finder) ws) ≡ length ws
length_finders [] = refl
length_finders (w ∷ ws) = ap suc (length_finders ws)

-- each worker's finder is one of those
pub workers_of : (z : TableId) (p : Scenarios) (ws : List Worker) (fs : List Found) → map (λ (w : Worker). w.finder) ws ≡ fs → All (IsOf z p) fs → (k : ℕ) (d : Worker) → k < length ws → IsOf z p (get_or ws k d).finder
workers_of z p ws fs e all k d lt = subst (IsOf z p) (sym (finder_at ws k d ∙ ap (λ (l : List Found). get_or l k d.finder) e)) (all k d.finder (omega (arith, length_finders ws, ap length e)))

module _ (ws : List Worker) (fs gs : List Found) (e : map (λ (w : Worker). w.finder) ws ≡ fs) (len : length gs ≡ length ws) (same : (k : ℕ) (d : Found) (e : Worker) → k < length ws → IsNoWorse (get_or ws k e).finder (get_or gs k d)) where
  length_ended : length gs ≡ length fs
  length_ended = len ∙ (sym (length_finders ws) ∙ ap length e)

  no_worse_at : (k : ℕ) (d : Found) → k < length fs → IsNoWorse (get_or fs k d) (get_or gs k d)
  no_worse_at k d lt =
      let w : Worker = record { number = 0; finder = d } in
      subst (λ (f : Found). IsNoWorse f (get_or gs k d)) (finder_at ws k w ∙ ap (λ (l : List Found). get_or l k d) e) (same k d w (omega (arith, length_finders ws, ap length e)))

  pub ended_of : (z : TableId) (p : Scenarios) → All (IsOf z p) fs → All (IsOf z p) gs
  ended_of z p all k d lt =
      let s = no_worse_at k d (omega (arith, length_ended)) in
      let o = all k d (omega (arith, length_ended)) in (s.same.table ∙ o.0, s.same.problem ∙ o.1)

  pub ended_all : HaveAll fs → HaveAll gs
  ended_all all = same_all fs gs length_ended no_worse_at all

  -- who is as good as all that came back is as good as all that were sent
  pub ended_good : (f : Found) → All (IsAsGood f) gs → All (IsAsGood f) fs
  ended_good f all k d lt =
      let s = no_worse_at k d lt in
      as_good_then f (get_or gs k d) (get_or fs k d) (all k d (omega (arith, length_ended))) (record { problem = s.same.problem; best = s.best })

-- ---- the master makes members

gave_more : (n k : ℕ) (v v' : View) (x : Found) (fs : List Found) → HasGiven n k v fs → v' ≡ one_more v → x.seat.view ≡ member_of v → HasGiven n (k + 1) v' (fs ++ x ∷ [])
gave_more n k v v' x fs g more is = record {
  caps = ap (λ (u : View). length u.caps) more ∙ g.caps;
  offers = ap (λ (u : View). u.offers) more ∙ g.offers;
  numbers = ap (λ (u : View). u.numbers) more ∙ g.numbers;
  leads = ap (λ (u : View). u.leads) more ∙ g.leads;
  count = ap (λ (u : View). u.count) more ∙ ap (λ (i : ℕ). i + 1) g.count;
  nobody = (let t = total-snoc count_in fs x in let z : count_in x.seat.view ≡ 0 = ap count_in is in let y = g.nobody in omega arith);
  given = λ y some lt.
      let t = total-snoc (numbered y) fs x in
      let u : numbered y x.seat.view ≡ times y (v.count ∷ []) = ap (numbered y) is in
      elim (ℕ_discrete y v.count) [
        | yes e ↦ (let one : times y (v.count ∷ []) ≡ 1 = ap (λ (b : Bool). cond b 1 0 + 0) (eq-eqb y v.count e) in omega arith)
        | no ne ↦ (let c = g.count in let h = g.given y some (omega arith) in omega arith)
      ];
}

pub gave_then : (n k : ℕ) (v v' : View) (x : Found) (fs gs : List Found) → gs ≡ fs ++ x ∷ [] → HasGiven n k v fs → v' ≡ one_more v → x.seat.view ≡ member_of v → HasGiven n (k + 1) v' gs
gave_then n k v v' x fs gs e g more is = subst (HasGiven n (k + 1) v') (sym e) (gave_more n k v v' x fs g more is)

pub all_then : {X : Type 0} (P : X → Type 0) (xs ys : List X) (x : X) → ys ≡ xs ++ x ∷ [] → All P xs → P x → All P ys
all_then P xs ys x e h p = subst (λ l. All P l) (sym e) (all_snoc P xs x h p)

gave_all : (n k : ℕ) (v : View) (x : Found) (fs : List Found) → HasGiven n k v fs → x.seat.view ≡ v → 0 < k → HaveAll (fs ++ x ∷ [])
gave_all n k v x fs g is some = record {
  leads = (let t = total-snoc weight fs x in let one : weight x.seat.view ≡ 1 = ap weight is ∙ ap (λ (b : Bool). cond b 1 0) g.leads in omega arith);
  numbers = λ y lt.
      let t = total-snoc count_in fs x in
      let c : count_in x.seat.view ≡ k = ap count_in is ∙ g.count in
      let none_else = g.nobody in
      let u = total-snoc (numbered y) fs x in
      let w : numbered y x.seat.view ≡ times y (0 ∷ []) = ap (numbered y) is ∙ ap (times y) g.numbers in
      elim (ℕ_discrete y 0) [
        | yes e ↦ (let one : times y (0 ∷ []) ≡ 1 = ap (λ (i : ℕ). times i (0 ∷ [])) e in omega arith)
        | no ne ↦ (let h = g.given y (omega arith) (omega arith) in omega arith)
      ];
}

pub gave_last : (n k : ℕ) (v : View) (x : Found) (fs gs : List Found) → gs ≡ fs ++ x ∷ [] → HasGiven n k v fs → x.seat.view ≡ v → 0 < k → HaveAll gs
gave_last n k v x fs gs e g is some = subst HaveAll (sym e) (gave_all n k v x fs g is some)
