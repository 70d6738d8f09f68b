-- The hull of stayers that are open.
use Rattle.std.specs.Prelude.{◌≡◌, ℕ, ℤ, ◌≤ℤ◌, List, [], ◌∷◌, ◌++◌, length, Bool, true, false, nat_eq, Option, Some, None, refl}
use Rattle.std.specs.Int.{int_min, int_max}
use Rattle.std.specs.List.{list_any}
use Rattle.std.proofs.Common.{arith, ap, sym, ◌∙◌, subst, inl, inr, append-nil}
use Rattle.std.proofs.lemmas.Int.{ints, clamps}
use Rattle.std.proofs.lemmas.Bool.{and_parts, and_from}
use Rattle.std.proofs.lemmas.Bool.Decides.{Decides-int_eq}
use Rattle.int_model.specs.Integers.{int_eq}
use Rattle.int_model.specs.Boxes.{Box, hull, is_empty, is_single}
use Rattle.int_model.proofs.VolumeLaws.{HasPoints, not_empty-points}
use Rattle.tighten.specs.Replay.{replay}
use Rattle.scenario_changes.specs.Problems.{Problem, IsWithin, program_at}
use Rattle.live_sets.proofs.RisingLists.{In}
use Rattle.certs.specs.Trees.{stayer_box, stayers_hull}
use Rattle.certs.specs.declared.cert.Cert.{Cert}
use Rattle.node_work.specs.Stayers.{IsOpen}
use Rattle.node_work.proofs.SetLemmas.{in_any}
use Rattle.certs.proofs.TreeLaws.{stayer_box-is}
use Rattle.certs.proofs.StayerLemmas.{HullSoFar, stays_occupied}

one_number : (a b c d : ℤ) → a ≤ℤ b → int_min a c ≡ int_max b d → a ≡ b
one_number a b c d h e = omega (arith, ints, clamps, h, e)

-- a box that isn't empty, in a hull that is single, is single
part_single : (a b : Box) → length a ≡ length b → HasPoints a → is_single (hull a b) ≡ true → is_single a ≡ true
part_single [] b l h e = refl
part_single (i ∷ a) [] l h e = absurd (omega arith)
part_single (i ∷ a) (j ∷ b) l h e =
    let t = and_parts (int_eq (int_min i.low j.low) (int_max i.high j.high)) (is_single (hull a b)) e in
    let same : i.low ≡ i.high = one_number i.low i.high j.low j.high h.0 ((Decides-int_eq (int_min i.low j.low) (int_max i.high j.high)).0 t.0) in
    and_from (int_eq i.low i.high) (is_single a) ((Decides-int_eq i.low i.high).1 same) (part_single a b (omega arith) h.1 t.1)

pub hull_several : (a b : Box) → length a ≡ length b → is_empty a ≡ false → is_single a ≡ false → is_single (hull a b) ≡ false
hull_several a b l e s = by_test (is_single (hull a b)) refl
  where
    by_test : (t : Bool) → is_single (hull a b) ≡ t → is_single (hull a b) ≡ false
    by_test true q = absurd (let w : true ≡ false = sym (part_single a b l (not_empty-points a e) q) ∙ s in cc)
    by_test false q = q

in_at : (before : List ℕ) (s : ℕ) (next : List ℕ) → In (before ++ s ∷ next) s
in_at [] s next = inl refl
in_at (x ∷ before) s next = inr (in_at before s next)

pub in_here : (all before : List ℕ) (s : ℕ) (next : List ℕ) → all ≡ before ++ s ∷ next → In all s
in_here all before s next e = subst (λ (xs : List ℕ). In xs s) (sym e) (in_at before s next)

pub member_at : (all before : List ℕ) (s : ℕ) (next : List ℕ) → all ≡ before ++ s ∷ next → list_any (nat_eq s) all ≡ true
member_at all before s next e = ap (λ (xs : List ℕ). list_any (nat_eq s) xs) e ∙ in_any s (before ++ s ∷ next) (in_at before s next)

module _ (p : Problem) (box : Box) (cert : Cert) where
  -- the box is the replay of an open scenario
  pub record IsNow (k : ℕ) (now : Box) : Type 0 where
    pub here : stayer_box p box cert (program_at p k) ≡ Some now
    pub occupied : is_empty now ≡ false
    pub several : is_single now ≡ false

  pub open_now : (columns rows k : ℕ) (b : Bool) (now : Box) → IsWithin columns rows (program_at p k) → length box ≡ columns → IsOpen p box cert k → (b ≡ true → replay (program_at p k) cert.steps box ≡ Some now) → (b ≡ false → replay (program_at p k) cert.steps box ≡ None) → IsNow k now
  open_now columns rows k b now w n o there none = by_test b refl
    where
      was : replay (program_at p k) cert.steps box ≡ Some o.part
      was = stayer_box-is p box cert (program_at p k) o.part o.is_part

      some_same : {a c : Box} → ◌≡◌ {A = Option Box} (Some a) (Some c) → a ≡ c
      some_same f = cc

      by_same : o.part ≡ now → IsNow k now
      by_same same =
          let here : stayer_box p box cert (program_at p k) ≡ Some now = o.is_part ∙ ap (λ (c : Box). Some c) same in
          record { here = here; occupied = stays_occupied p box cert (program_at p k) now columns rows w n here; several = subst (λ (c : Box). is_single c ≡ false) same o.several }

      by_test : (t : Bool) → b ≡ t → IsNow k now
      by_test true q = by_same (some_same (sym was ∙ there q))
      by_test false q = absurd (let w : None ≡ Some o.part = sym (none q) ∙ was in cc)

  pub record IsDone (stay : List ℕ) (b : Bool) (h : Box) : Type 0 where
    pub begun : b ≡ true
    pub hull_is : stayers_hull p box cert stay ≡ Some h
    pub occupied : is_empty h ≡ false

  pub hull_done : (stay ks rest : List ℕ) (b : Bool) (h : Box) → ks ++ rest ≡ stay → rest ≡ [] → (stay ≡ [] → ⊥) → HullSoFar p box cert ks b h → IsDone stay b h
  hull_done stay ks rest true h e f some s =
      let all : ks ≡ stay = sym (append-nil ks) ∙ ap (λ (xs : List ℕ). ks ++ xs) (sym f) ∙ e in
      record { begun = refl; hull_is = ap (λ (xs : List ℕ). stayers_hull p box cert xs) (sym all) ∙ s.0; occupied = s.1 }
  hull_done stay ks rest false h e f some s =
      let all : ks ≡ stay = sym (append-nil ks) ∙ ap (λ (xs : List ℕ). ks ++ xs) (sym f) ∙ e in
      absurd (some (sym all ∙ s))
