-- Raised levels, one scenario at a time.
use Rattle.std.specs.Prelude.{◌≡◌, ℕ, zero, suc, ◌+◌, ◌<◌, ◌≤◌, List, [], ◌∷◌, ◌++◌, length, drop, slice_get, slice_index_or, Option, Some, None, refl, option_map}
use Rattle.std.proofs.Common.{arith, ap, sym, ◌∙◌, subst, append_assoc, append-nil}
use Rattle.int_model.specs.Boxes.{Box}
use Rattle.int_model.specs.Programs.{Program}
use Rattle.certs.specs.Levels.{greater_level}
use Rattle.certs.specs.Verdicts.{judged}
use Rattle.certs.specs.Trees.{raised}
use Rattle.scenario_changes.specs.Problems.{Problem, program_at}
use Rattle.certs.specs.declared.cert.Cert.{Cert}
use Rattle.certs.specs.declared.verdict.Verdict.{Verdict}
use Rattle.certs.specs.declared.level.Level.{Level}

drop_suc : {X : Type 0} (xs : List X) (k : ℕ) (x : X) → slice_get xs k ≡ Some x → drop k xs ≡ x ∷ drop (suc k) xs
drop_suc [] k x e = absurd (cc)
drop_suc (y ∷ xs) zero x e = cc
drop_suc (y ∷ xs) (suc k) x e = drop_suc xs k x e

pub drop_get : {X : Type 0} (xs : List X) (k : ℕ) (x : X) → slice_get xs k ≡ Some x → drop k xs ≡ x ∷ drop (k + 1) xs
drop_get xs k x e = let s : suc k ≡ k + 1 = omega arith in drop_suc xs k x e ∙ ap (λ (n : ℕ). x ∷ drop n xs) s

get_here : {X : Type 0} (xs : List X) (k : ℕ) (d x : X) → k < length xs → slice_index_or xs k d ≡ x → slice_get xs k ≡ Some x
get_here [] k d x l e = absurd (omega arith)
get_here (y ∷ xs) zero d x l e = ap Some e
get_here (y ∷ xs) (suc k) d x l e = get_here xs k d x (omega arith) e

pub get_below : {X : Type 0} (xs : List X) (k : ℕ) → k < length xs → (x : X) × (slice_get xs k ≡ Some x)
get_below [] k l = absurd (omega arith)
get_below (x ∷ xs) zero l = (x, refl)
get_below (x ∷ xs) (suc k) l = get_below xs k (omega arith)

drop_all : {X : Type 0} (xs : List X) (k : ℕ) → length xs ≤ k → drop k xs ≡ []
drop_all [] zero l = refl
drop_all [] (suc k) l = refl
drop_all (x ∷ xs) zero l = absurd (omega arith)
drop_all (x ∷ xs) (suc k) l = drop_all xs k (omega arith)

pub length_zero : {X : Type 0} (xs : List X) → length xs ≡ 0 → xs ≡ []
length_zero [] e = refl
length_zero (x ∷ xs) e = absurd (omega arith)

program_here : (ss : List Program) (k : ℕ) (d s : Program) → slice_get ss k ≡ Some s → slice_index_or ss k d ≡ s
program_here [] k d s e = absurd (cc)
program_here (t ∷ ss) zero d s e = cc
program_here (t ∷ ss) (suc k) d s e = program_here ss k d s e

pub judged_here : (p : Problem) (k : ℕ) (s : Program) (box : Box) (cert : Cert) (v : Verdict) → slice_get p.scenarios k ≡ Some s → judged (program_at p k) box cert v ≡ judged s box cert v
judged_here p k s box cert v e = ap (λ (t : Program). judged t box cert v) (program_here p.scenarios k _ s e)

-- a list in front of one that may be missing
abbrev pub with_front : List (Option Level) → Option (List (Option Level)) → Option (List (Option Level))
with_front xs o = option_map (λ (rest : List (Option Level)). xs ++ rest) o

front_step : (xs : List (Option Level)) (y : Option Level) (o : Option (List (Option Level))) → with_front xs (option_map (λ (rest : List (Option Level)). y ∷ rest) o) ≡ with_front (xs ++ y ∷ []) o
front_step xs y None = refl
front_step xs y (Some rest) = ap Some (sym (append_assoc xs (y ∷ []) rest))

front_nil : (o : Option (List (Option Level))) → o ≡ with_front [] o
front_nil None = refl
front_nil (Some rest) = refl

module _ (box : Box) (cert : Cert) (ss : List Program) (ls : List (Option Level)) where
  -- the levels so far, and those of the scenarios that are left
  pub record SoFar (all : List Verdict) (k : ℕ) (out : List (Option Level)) (rest : List Verdict) : Type 0 where
    pub whole : raised box cert ss ls all ≡ with_front out (raised box cert (drop k ss) (drop k ls) rest)
    pub many : length out ≡ k

  pub raise_first : (all : List Verdict) (out : List (Option Level)) → out ≡ [] → SoFar all 0 out all
  raise_first all out e = record { whole = front_nil (raised box cert ss ls all) ∙ ap (λ (xs : List (Option Level)). with_front xs (raised box cert ss ls all)) (sym e); many = ap length e }

  pub raise_none : (all : List Verdict) (k : ℕ) (out new : List (Option Level)) (rest : List Verdict) → SoFar all k out rest → k < length ss → k < length ls → slice_index_or ls k None ≡ None → new ≡ out ++ None ∷ [] → SoFar all (k + 1) new rest
  raise_none all k out new rest h l m e n =
      let s = get_below ss k l in
      let cut : raised box cert (drop k ss) (drop k ls) rest ≡ option_map (λ (r : List (Option Level)). None ∷ r) (raised box cert (drop (k + 1) ss) (drop (k + 1) ls) rest) = rw (drop_get ss k s.0 s.1, drop_get ls k None (get_here ls k None None m e)) refl in
      record {
        whole = h.whole ∙ ap (with_front out) cut ∙ front_step out None (raised box cert (drop (k + 1) ss) (drop (k + 1) ls) rest) ∙ ap (λ (xs : List (Option Level)). with_front xs (raised box cert (drop (k + 1) ss) (drop (k + 1) ls) rest)) (sym n);
        many = let f : length new ≡ length (out ++ None ∷ []) = ap length n in omega (arith, f, length_one out None, h.many);
      }
    where
      length_one : (xs : List (Option Level)) (y : Option Level) → length (xs ++ y ∷ []) ≡ length xs + 1
      length_one [] y = omega arith
      length_one (x ∷ xs) y = omega (arith, length_one xs y)

  pub raise_some : (all : List Verdict) (k : ℕ) (out new : List (Option Level)) (v : Verdict) (rest : List Verdict) (l m : Level) → SoFar all k out (v ∷ rest) → k < length ss → k < length ls → slice_index_or ls k None ≡ Some l → ((s : Program) → slice_get ss k ≡ Some s → Some m ≡ judged s box cert v) → new ≡ out ++ Some (greater_level l m) ∷ [] → SoFar all (k + 1) new rest
  raise_some all k out new v rest l m h a b e j n =
      let s = get_below ss k a in
      let more : judged s.0 box cert v ≡ Some m = sym (j s.0 s.1) in
      let cut : raised box cert (drop k ss) (drop k ls) (v ∷ rest) ≡ option_map (λ (r : List (Option Level)). Some (greater_level l m) ∷ r) (raised box cert (drop (k + 1) ss) (drop (k + 1) ls) rest) = rw (drop_get ss k s.0 s.1, drop_get ls k (Some l) (get_here ls k None (Some l) b e), more) refl in
      record {
        whole = h.whole ∙ ap (with_front out) cut ∙ front_step out (Some (greater_level l m)) (raised box cert (drop (k + 1) ss) (drop (k + 1) ls) rest) ∙ ap (λ (xs : List (Option Level)). with_front xs (raised box cert (drop (k + 1) ss) (drop (k + 1) ls) rest)) (sym n);
        many = let f : length new ≡ length (out ++ Some (greater_level l m) ∷ []) = ap length n in omega (arith, f, length_one out (Some (greater_level l m)), h.many);
      }
    where
      length_one : (xs : List (Option Level)) (y : Option Level) → length (xs ++ y ∷ []) ≡ length xs + 1
      length_one [] y = omega arith
      length_one (x ∷ xs) y = omega (arith, length_one xs y)

  pub none_next : (all : List Verdict) (k : ℕ) (out new : List (Option Level)) (rest others : List Verdict) → SoFar all k out rest → k < length ss → k < length ls → slice_index_or ls k None ≡ None → new ≡ out ++ None ∷ [] → others ≡ rest → SoFar all (k + 1) new others
  none_next all k out new rest others h l m e n q = raise_none all k out new others (subst (λ (vs : List Verdict). SoFar all k out vs) (sym q) h) l m e n

  pub some_next : (all : List Verdict) (k : ℕ) (out new : List (Option Level)) (v : Verdict) (rest others : List Verdict) (l m : Level) → SoFar all k out rest → k < length ss → k < length ls → slice_index_or ls k None ≡ Some l → ((s : Program) → slice_get ss k ≡ Some s → Some m ≡ judged s box cert v) → new ≡ out ++ Some (greater_level l m) ∷ [] → rest ≡ v ∷ others → SoFar all (k + 1) new others
  some_next all k out new v rest others l m h a b e j n q = raise_some all k out new v others l m (subst (λ (vs : List Verdict). SoFar all k out vs) q h) a b e j n

  -- where there is nothing, there is nothing in all
  none_in_all : (all : List Verdict) (k : ℕ) (out : List (Option Level)) (rest : List Verdict) → SoFar all k out rest → raised box cert (drop k ss) (drop k ls) rest ≡ None → raised box cert ss ls all ≡ None
  none_in_all all k out rest h e = h.whole ∙ ap (with_front out) e

  pub raise_short : (all : List Verdict) (k : ℕ) (out : List (Option Level)) (rest : List Verdict) → SoFar all k out rest → k < length ss → length ls ≤ k → raised box cert ss ls all ≡ None
  raise_short all k out rest h l m = let s = get_below ss k l in none_in_all all k out rest h (rw (drop_get ss k s.0 s.1, drop_all ls k m) refl)

  pub raise_missing : (all : List Verdict) (k : ℕ) (out : List (Option Level)) (rest : List Verdict) (l : Level) → SoFar all k out rest → k < length ss → k < length ls → slice_index_or ls k None ≡ Some l → rest ≡ [] → raised box cert ss ls all ≡ None
  raise_missing all k out rest l h a b e n = let s = get_below ss k a in none_in_all all k out rest h (rw (drop_get ss k s.0 s.1, drop_get ls k (Some l) (get_here ls k None (Some l) b e), n) refl)

  pub raise_bad : (all : List Verdict) (k : ℕ) (out : List (Option Level)) (v : Verdict) (rest others : List Verdict) (l : Level) → SoFar all k out rest → k < length ss → k < length ls → slice_index_or ls k None ≡ Some l → rest ≡ v ∷ others → ((s : Program) → slice_get ss k ≡ Some s → None ≡ judged s box cert v) → raised box cert ss ls all ≡ None
  raise_bad all k out v rest others l h a b e n j =
      let s = get_below ss k a in
      let no_level : judged s.0 box cert v ≡ None = sym (j s.0 s.1) in
      none_in_all all k out rest h (rw (drop_get ss k s.0 s.1, drop_get ls k (Some l) (get_here ls k None (Some l) b e), n, no_level) refl)

  pub raise_done : (all : List Verdict) (k : ℕ) (out : List (Option Level)) → SoFar all k out [] → length ss ≤ k → raised box cert ss ls all ≡ Some out
  raise_done all k out h l = h.whole ∙ rw (drop_all ss k l) (ap Some (append-nil out))

  pub raise_over : (all : List Verdict) (k : ℕ) (out : List (Option Level)) (v : Verdict) (rest : List Verdict) → SoFar all k out (v ∷ rest) → length ss ≤ k → raised box cert ss ls all ≡ None
  raise_over all k out v rest h l = h.whole ∙ rw (drop_all ss k l) refl
