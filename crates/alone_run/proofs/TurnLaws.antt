-- What is known within a turn.
use Rattle.std.specs.Prelude.{◌≡◌, ◌<◌, ◌≤◌, ℕ, zero, suc, ℤ, List, [], ◌∷◌, ◌++◌, length, slice_get, slice_index_or, min, Option, Some, None, All, refl}
use Rattle.std.proofs.Common.{arith, ap, ◌∙◌, inl, inr, length-set}
use Rattle.int_model.specs.Programs.{value}
use Rattle.int_model.proofs.LimitLaws.{limits-fit}
use Rattle.scenario_changes.specs.Problems.{Problem, Scenarios, AreWithin, program_at}
use Rattle.scenario_changes.specs.Problems as problems
use Rattle.certs.specs.declared.cert.Cert.{Cert}
use Rattle.certs.specs.declared.verdict.Verdict.{Verdict}
use Rattle.bb_core.specs.Settlements.{Work}
use Rattle.bb_core.proofs.ListWrites.{append-get}
use Rattle.incumbent_words.specs.Codes.{IsValue}
use Rattle.incumbent_words.specs.Rule.{code_at, looked, offered}
use Rattle.incumbent_words.specs.declared.view.View.{View}
use Rattle.finder.specs.Found.{Found, IsSameHolder, IsOffered, value_code, scenario_count, program_of}
use Rattle.node_work.specs.Probes.{EachLive, AreFound, IsGoodVerdict, IsGoodProbe, lows_of}
use Rattle.node_work.specs.Stayers.{CutsAreReached}
use Rattle.alone_run.specs.Turns.{IsNoWorse, HasLooked, AreCuts, AreOffered, ArePointsBelow}
use Rattle.alone_run.proofs.CodeOrder.{code_level, set_le, set_here}
use Rattle.alone_run.proofs.BestLaws.{holder_self, holder_then}

-- ---- reading words

pub looked_self : (f : Found) → HasLooked f f
looked_self f = record { same = holder_self f; offers = refl; wide = refl; caps = λ k. omega arith }

pub looked_then : (f g h : Found) → HasLooked f g → HasLooked g h → HasLooked f h
looked_then f g h a b = record {
  same = holder_then f g h a.same b.same;
  offers = b.offers ∙ a.offers;
  wide = b.wide ∙ a.wide;
  caps = λ k. omega (arith, a.caps k, b.caps k);
}

pub looked_once : (f g : Found) (s word : ℕ) → IsSameHolder f g → g.seat.view ≡ looked f.seat.view s word → word ≤ code_at f.seat.view.caps s → HasLooked f g
looked_once f g s word same view low = record {
  same = same;
  offers = ap (λ (v : View). v.offers) view;
  wide = ap (λ (v : View). length v.caps) view ∙ length-set f.seat.view.caps s word;
  caps = λ k. (let e = ap (λ (v : View). code_at v.caps k) view in let h = set_le f.seat.view.caps s word low k in omega (arith, e, h));
}

pub looked_worse : (f g : Found) → HasLooked f g → IsNoWorse f g
looked_worse f g h = record { same = h.same; best = λ k. (let e = ap (λ (os : List ℕ). code_at os k) h.offers in omega (arith, e)) }

-- ---- offers

module _ (f g : Found) (s c : ℕ) (same : IsSameHolder f g) (o : IsOffered f.seat.view g.seat.view s c) where
  pub offered_worse : IsNoWorse f g
  offered_worse = record {
    same = same;
    best = λ k. (let e = ap (λ (v : View). code_at v.offers k) o.view in let h = set_le f.seat.view.offers s (min (code_at f.seat.view.offers s) c) (omega arith) k in omega (arith, e, h));
  }

  caps_fall : (k : ℕ) → code_at g.seat.view.caps k ≤ code_at f.seat.view.caps k
  caps_fall k = let e = ap (λ (v : View). code_at v.caps k) o.view in let h = set_le f.seat.view.caps s (min o.word c) (omega (arith, o.cap)) k in omega (arith, e, h)

  caps_wide : length g.seat.view.caps ≡ length f.seat.view.caps
  caps_wide = ap (λ (v : View). length v.caps) o.view ∙ length-set f.seat.view.caps s (min o.word c)

  cap_here : s < length f.seat.view.caps → code_at g.seat.view.caps s ≤ c
  cap_here l = let e = ap (λ (v : View). code_at v.caps s) o.view in let h = set_here f.seat.view.caps s (min o.word c) l in omega (arith, e, h)

one_get : {X : Type 0} (x : X) (j : ℕ) (y : X) → slice_get (x ∷ []) j ≡ Some y → x ≡ y
one_get x zero y e = cc
one_get x (suc j) y e = absurd (cc)

pub offered_more : (f g : Found) (found : List (ℕ × List ℤ)) (s : ℕ) (x : List ℤ) → IsSameHolder f g → IsOffered f.seat.view g.seat.view s (value_code f.problem s x) → AreOffered f found → AreOffered g (found ++ (s, x) ∷ [])
offered_more f g found s x same o h i k y e l =
    let wide = caps_wide f g s (value_code f.problem s x) same o in
    let l' : k < length f.seat.view.caps = omega (arith, wide, l) in
    let fall = caps_fall f g s (value_code f.problem s x) same o k in
    let problem : value_code g.problem k y ≡ value_code f.problem k y = ap (λ p. value_code p k y) same.problem in
    elim (append-get found ((s, x) ∷ []) i (k, y) e) [
      | inl a ↦ (let old = h i k y a l' in omega (arith, old, fall, problem))
      | inr a ↦ (
          let q : (s, x) ≡ (k, y) = one_get (s, x) a.0 (k, y) a.2 in
          let u : s ≡ k = ap (λ (t : ℕ × List ℤ). t.0) q in
          let v : x ≡ y = ap (λ (t : ℕ × List ℤ). t.1) q in
          let l'' : s < length f.seat.view.caps = omega (arith, u, l') in
          let here = cap_here f g s (value_code f.problem s x) same o l'' in
          let caps : code_at g.seat.view.caps s ≡ code_at g.seat.view.caps k = ap (code_at g.seat.view.caps) u in
          let values : value_code f.problem s x ≡ value_code f.problem k y = ap (λ (t : ℕ × List ℤ). value_code f.problem t.0 t.1) q in
          omega (arith, here, caps, values, problem))
    ]

pub offered_none : (f : Found) → AreOffered f []
offered_none f i k x e l = absurd (cc)

-- after words were read
pub offered_still : (f g : Found) (found : List (ℕ × List ℤ)) → HasLooked f g → AreOffered f found → AreOffered g found
offered_still f g found h a i k x e l =
    let old = a i k x e (omega (arith, h.wide, l)) in
    let problem : value_code g.problem k x ≡ value_code f.problem k x = ap (λ p. value_code p k x) h.same.problem in
    omega (arith, old, h.caps k, problem)

-- ---- points of the problem's scenarios

get_front : {X : Type 0} (xs ys : List X) (i : ℕ) (x : X) → slice_get xs i ≡ Some x → slice_get (xs ++ ys) i ≡ Some x
get_front [] ys i x e = absurd (cc)
get_front (z ∷ xs) ys zero x e = e
get_front (z ∷ xs) ys (suc i) x e = get_front xs ys i x e

get_last : {X : Type 0} (xs : List X) (x : X) → slice_get (xs ++ x ∷ []) (length xs) ≡ Some x
get_last [] x = refl
get_last (z ∷ xs) x = get_last xs x

pub below_none : (count : ℕ) → ArePointsBelow count [] []
below_none count = record {
  below = λ i k x e. absurd (cc);
  among = λ i k x e. absurd (cc);
  every = λ i k x e l. absurd (cc);
}

pub below_kept : (count : ℕ) (all some : List (ℕ × List ℤ)) (s : ℕ) (x : List ℤ) → ArePointsBelow count all some → s < count → ArePointsBelow count (all ++ (s, x) ∷ []) (some ++ (s, x) ∷ [])
below_kept count all some s x h lt = record {
  below = λ i k y e. elim (append-get some ((s, x) ∷ []) i (k, y) e) [
    | inl a ↦ h.below i k y a
    | inr a ↦ (let q : s ≡ k = ap (λ (t : ℕ × List ℤ). t.0) (one_get (s, x) a.0 (k, y) a.2) in omega (arith, q, lt))
  ];
  among = λ i k y e. elim (append-get some ((s, x) ∷ []) i (k, y) e) [
    | inl a ↦ (let r = h.among i k y a in (r.0, get_front all ((s, x) ∷ []) r.0 (k, y) r.1))
    | inr a ↦ (length all, get_last all (s, x) ∙ ap (λ (t : ℕ × List ℤ). Some t) (one_get (s, x) a.0 (k, y) a.2))
  ];
  every = λ i k y e l. elim (append-get all ((s, x) ∷ []) i (k, y) e) [
    | inl a ↦ (let r = h.every i k y a l in (r.0, get_front some ((s, x) ∷ []) r.0 (k, y) r.1))
    | inr a ↦ (length some, get_last some (s, x) ∙ ap (λ (t : ℕ × List ℤ). Some t) (one_get (s, x) a.0 (k, y) a.2))
  ];
}

pub below_left : (count : ℕ) (all some : List (ℕ × List ℤ)) (s : ℕ) (x : List ℤ) → ArePointsBelow count all some → count ≤ s → ArePointsBelow count (all ++ (s, x) ∷ []) some
below_left count all some s x h le = record {
  below = h.below;
  among = λ i k y e. (let r = h.among i k y e in (r.0, get_front all ((s, x) ∷ []) r.0 (k, y) r.1));
  every = λ i k y e l. elim (append-get all ((s, x) ∷ []) i (k, y) e) [
    | inl a ↦ h.every i k y a l
    | inr a ↦ absurd (let q : s ≡ k = ap (λ (t : ℕ × List ℤ). t.0) (one_get (s, x) a.0 (k, y) a.2) in omega (arith, q, l, le))
  ];
}

-- ---- a good probe with these points alone

each_live : (count : ℕ) (P Q : ℕ → Verdict → Type 0) (live : List ℕ) (verdicts : List Verdict) → ((k : ℕ) (v : Verdict) → k < count → P k v → Q k v) → All (λ s. s < count) live → EachLive P live verdicts → EachLive Q live verdicts
each_live count P Q [] [] f all h = tt
each_live count P Q [] (v ∷ verdicts) f all h = absurd h
each_live count P Q (k ∷ live) [] f all h = absurd h
each_live count P Q (k ∷ live) (v ∷ verdicts) f all h =
    (f k v (all 0 0 (omega arith)) h.0, each_live count P Q live verdicts f (λ i d l. all (suc i) d (omega arith)) h.1)

pub good_below : (p : Problem) (w : Work) (cert : Cert) (verdicts : List Verdict) (all some : List (ℕ × List ℤ)) → All (λ s. s < length p.scenarios) w.live → ArePointsBelow (length p.scenarios) all some → IsGoodProbe p w cert verdicts all → IsGoodProbe p w cert verdicts some
good_below p w cert verdicts all some live h g = record {
  fits = g.fits;
  are_good = each_live (length p.scenarios) (IsGoodVerdict p w.bounds cert all) (IsGoodVerdict p w.bounds cert some) w.live verdicts (λ k v l d. record {
    level = d.level;
    valid = d.valid;
    missed = d.missed;
    single = λ part r t. elim (d.single part r t) [
      | inl e ↦ inl e
      | inr q ↦ inr (let r = h.every q.place k (lows_of part) q.there l in record { place = r.0; there = r.1; at_most = q.at_most })
    ];
  }) live g.are_good;
  are_found = λ i k x e. (let r = h.among i k x e in g.are_found r.0 k x r.1);
}

-- the cuts are at most the values of the points that were offered
pub cuts_reached : (p : Scenarios) (f : Found) (found : List (ℕ × List ℤ)) (caps : List ℕ) (cuts : List (Option ℤ)) → f.problem ≡ p → AreWithin (problems.problem p) → length caps ≡ scenario_count p → caps ≡ f.seat.view.caps → AreCuts caps cuts → AreFound (problems.problem p) found → ((i k : ℕ) (x : List ℤ) → slice_get found i ≡ Some (k, x) → k < scenario_count p) → AreOffered f found → CutsAreReached (problems.problem p) found cuts
cuts_reached p f found caps cuts problem limits wide same are feasible below offered i k x e =
    let lt : k < scenario_count p = below i k x e in
    let long : length caps ≡ length f.seat.view.caps = ap (λ (cs : List ℕ). length cs) same in
    let low = offered i k x e (omega (arith, wide, lt, long)) in
    let cap : code_at caps k ≡ code_at f.seat.view.caps k = ap (λ (cs : List ℕ). code_at cs k) same in
    let values : value_code f.problem k x ≡ value_code p k x = ap (λ (q : Scenarios). value_code q k x) problem in
    let limit : IsValue (value (program_of p k) x) = (limits-fit (program_of p k) (limits.programs k _ lt).limits x (feasible i k x e).within).value in
    code_level (slice_index_or cuts k None) (Some (value (program_of p k) x)) (are.limits k) limit (omega (arith, are.codes k, cap, low, values))
