-- A scenario that stays is open: its replay has more than one point, and no row misses it.
use Rattle.std.specs.Prelude.{◌≡◌, ◌↔◌, ℕ, zero, suc, ◌+◌, ◌<◌, ℤ, List, [], ◌∷◌, length, slice_get, slice_index_or, Bool, true, false, cond, not, nat_eq, is_some, Option, Some, None, option_and_then, IsTrue, Contains, refl}
use Rattle.std.specs.List.{list_any, list_all}
use Rattle.std.proofs.Common.{arith, ap, sym, ◌∙◌, subst, inl, inr}
use Rattle.std.proofs.lemmas.Bool.{and_from}
use Rattle.int_model.specs.Boxes.{Box, is_single}
use Rattle.int_model.specs.Programs.{value}
use Rattle.tighten.specs.Replay.{replay}
use Rattle.scenario_changes.specs.Problems.{Problem, program_at}
use Rattle.certs.specs.Levels.{level_le, cap_level, greater_level}
use Rattle.certs.specs.Trees.{raised, unmissed, some_row_misses, is_live}
use Rattle.certs.specs.Verdicts.{level_on, empty_level}
use Rattle.certs.specs.declared.level.Level.{Level}
use Rattle.certs.specs.declared.level.Level.TheVariants.{Value, Inf}
use Rattle.certs.specs.declared.verdict.Verdict.{Verdict}
use Rattle.certs.specs.declared.verdict.Verdict.TheVariants.{Empty, Misses, Farkas, Bound, Point}
use Rattle.certs.specs.declared.cert.Cert.{Cert}
use Rattle.live_sets.proofs.RisingLists.{Contains-in}
use Rattle.bb_core.specs.Settlements.{Work, place_of}
use Rattle.certs.specs.Trees.{of_live}
use Rattle.node_work.specs.Probes.{Found, IsGoodVerdict, IsSolved, lows_of}
use Rattle.node_work.specs.Stayers.{is_below, undercuts, AreStayers, CutsAreReached, IsOpen, AreOpen}
use Rattle.node_work.proofs.LevelOrder.{le_trans, le_inf, le_greater}
use Rattle.certs.proofs.LevelLists.{live_at}
use Rattle.node_work.proofs.LiveLists.{IsRaisedBy, ComesFrom}
use Rattle.node_work.proofs.SetLemmas.{any_in, in_any}

not_is : (b : Bool) → not b ≡ true → b ≡ false
not_is true e = absurd (cc)
not_is false e = refl

-- an empty replay has no other level than Inf
empty_inf : (v : Verdict) (m : Level) → empty_level v ≡ Some m → m ≡ Inf
empty_inf Empty m e = cc
empty_inf (Misses i) m e = absurd (cc)
empty_inf (Farkas k) m e = absurd (cc)
empty_inf (Bound k) m e = absurd (cc)
empty_inf Point m e = absurd (cc)

module _ (p : Problem) (box : Box) (cert : Cert) (found : Found) (cuts : List (Option ℤ)) (reached : CutsAreReached p found cuts) where
  -- a good verdict whose level isn't at least the cut
  open_by : (k : ℕ) → k < length p.scenarios → (v : Verdict) → (g : IsGoodVerdict p box cert found k v) → level_le (cap_level (slice_index_or cuts k None)) g.level ≡ false → IsOpen p box cert k
  open_by k l v g low = by_replay (replay (program_at p k) cert.steps box) refl
    where
      not_inf : g.level ≡ Inf → ⊥
      not_inf e = let t : true ≡ false = sym (le_inf (cap_level (slice_index_or cuts k None))) ∙ ap (λ (m : Level). level_le (cap_level (slice_index_or cuts k None)) m) (sym e) ∙ low in absurd (cc)

      not_solved : (x : List ℤ) → IsSolved p found k x g.level → ⊥
      not_solved x s =
          let t : true ≡ false = sym (le_trans (cap_level (slice_index_or cuts k None)) (Value (value (program_at p k) x)) g.level (reached s.place k x s.there) s.at_most) ∙ low in absurd (cc)

      by_single : (part : Box) → replay (program_at p k) cert.steps box ≡ Some part → (b : Bool) → is_single part ≡ b → is_single part ≡ false
      by_single part r true e = absurd (elim (g.single part r e) [ inl i ↦ not_inf i | inr s ↦ not_solved (lows_of part) s ])
      by_single part r false e = e

      by_rows : (part : Box) → replay (program_at p k) cert.steps box ≡ Some part → (b : Bool) → some_row_misses (program_at p k) p.rows part ≡ b → IsOpen p box cert k
      by_rows part r true e = absurd (not_inf (g.missed part r e))
      by_rows part r false e = record {
        is_scenario = l;
        part = part;
        is_part = ap (option_and_then (unmissed (program_at p k) p.rows)) r ∙ ap (λ (b : Bool). cond b None (Some part)) e;
        several = by_single part r (is_single part) refl;
      }

      by_replay : (o : Option Box) → replay (program_at p k) cert.steps box ≡ o → IsOpen p box cert k
      by_replay None r = absurd (not_inf (empty_inf v g.level (sym (ap (level_on (program_at p k) cert.vectors v) r) ∙ g.valid)))
      by_replay (Some part) r = by_rows part r (some_row_misses (program_at p k) p.rows part) refl

  get_short : (ls : List Level) (k : ℕ) (l : Level) → slice_get ls k ≡ Some l → k < length ls
  get_short [] k l e = absurd (cc)
  get_short (m ∷ ls) zero l e = omega arith
  get_short (m ∷ ls) (suc k) l e = omega (arith, get_short ls k l e)

  -- what is known of a scenario that stays
  pub record IsStayer (live : List ℕ) (ls : List Level) (k : ℕ) : Type 0 where
    pub opened : IsOpen p box cert k
    pub lives : is_live (of_live live 0 ls) k ≡ true

  pub stayer_is : (live : List ℕ) (ls : List Level) (rs : List (Option Level)) → length ls ≡ length p.scenarios → ComesFrom p box cert found 0 live ls rs → (k : ℕ) → undercuts cuts rs k ≡ true → IsStayer live ls k
  stayer_is live ls rs n from k e = by_level (slice_index_or rs k None) refl e
    where
      by_level : (o : Option Level) → slice_index_or rs k None ≡ o → is_below (slice_index_or cuts k None) o ≡ true → IsStayer live ls k
      by_level None q u = absurd (cc)
      by_level (Some r) q u =
          let t = from k r q in
          let zero_more : 0 + k ≡ k = omega arith in
          let member : list_any (nat_eq k) live ≡ true = subst (λ (j : ℕ). list_any (nat_eq j) live ≡ true) zero_more t.2 in
          let by : IsRaisedBy p box cert found k t.0 r = subst (λ (j : ℕ). IsRaisedBy p box cert found j t.0 r) zero_more t.3 in
          let low : level_le (cap_level (slice_index_or cuts k None)) r ≡ false = not_is (level_le (cap_level (slice_index_or cuts k None)) r) u in
          record {
            opened = open_by k (omega (arith, get_short ls k t.0 t.1, n)) by.verdict by.good (by_cut t.0 by.good.level (level_le (cap_level (slice_index_or cuts k None)) by.good.level) refl low by.is);
            lives = ap (λ (o : Option Level). is_some o) (live_at live ls k ∙ ap (λ (b : Bool). cond b (slice_get ls k) None) member ∙ t.1);
          }
        where
          by_cut : (l m : Level) (b : Bool) → level_le (cap_level (slice_index_or cuts k None)) m ≡ b → level_le (cap_level (slice_index_or cuts k None)) r ≡ false → r ≡ greater_level l m → level_le (cap_level (slice_index_or cuts k None)) m ≡ false
          by_cut l m true e low is =
              let t : true ≡ false = sym (le_greater (cap_level (slice_index_or cuts k None)) l m e) ∙ ap (λ (a : Level). level_le (cap_level (slice_index_or cuts k None)) a) (sym is) ∙ low in absurd (cc)
          by_cut l m false e low is = e

  -- ---- all stayers

  member_below : (stay : List ℕ) (rs : List (Option Level)) → ((k : ℕ) → Contains stay k ↔ IsTrue (undercuts cuts rs k)) → (k : ℕ) → list_any (nat_eq k) stay ≡ true → undercuts cuts rs k ≡ true
  member_below stay rs h k e = (h k).0 (Contains-in stay k (any_in k stay e))

  pub stayers_open : (live : List ℕ) (ls : List Level) (rs : List (Option Level)) (stay : List ℕ) → length ls ≡ length p.scenarios → ComesFrom p box cert found 0 live ls rs → ((k : ℕ) → Contains stay k ↔ IsTrue (undercuts cuts rs k)) → AreOpen p box cert stay
  stayers_open live ls rs stay n from h = λ k e. (stayer_is live ls rs n from k (member_below stay rs h k e)).opened

  pub stayers_have : (rs : List (Option Level)) (stay : List ℕ) → ((k : ℕ) → Contains stay k ↔ IsTrue (undercuts cuts rs k)) → (k : ℕ) → list_any (nat_eq k) stay ≡ true → slice_index_or rs k None ≡ None → ⊥
  stayers_have rs stay h k e q =
      let t : true ≡ false = sym (member_below stay rs h k e) ∙ ap (λ (o : Option Level). is_below (slice_index_or cuts k None) o) q in absurd (cc)

  pub stayers_live : (live : List ℕ) (ls : List Level) (rs : List (Option Level)) (stay : List ℕ) → length ls ≡ length p.scenarios → ComesFrom p box cert found 0 live ls rs → ((k : ℕ) → Contains stay k ↔ IsTrue (undercuts cuts rs k)) → list_all (is_live (of_live live 0 ls)) stay ≡ true
  stayers_live live ls rs stay n from h = all_by stay (λ k e. (stayer_is live ls rs n from k (member_below stay rs h k e)).lives)
    where
      all_by : (xs : List ℕ) → ((k : ℕ) → list_any (nat_eq k) xs ≡ true → is_live (of_live live 0 ls) k ≡ true) → list_all (is_live (of_live live 0 ls)) xs ≡ true
      all_by [] f = refl
      all_by (x ∷ xs) f = and_from (is_live (of_live live 0 ls) x) (list_all (is_live (of_live live 0 ls)) xs) (f x (in_any x (x ∷ xs) (inl refl))) (all_by xs (λ k e. f k (in_any k (x ∷ xs) (inr (any_in k xs e)))))

-- where the levels that were raised are these
pub are_stayers : (p : Problem) (w : Work) (cert : Cert) (verdicts : List Verdict) (cuts : List (Option ℤ)) (rs : List (Option Level)) (stay : List ℕ) → raised w.bounds cert p.scenarios (place_of w).levels verdicts ≡ Some rs → ((k : ℕ) → Contains stay k ↔ IsTrue (undercuts cuts rs k)) → AreStayers p w cert verdicts cuts stay
are_stayers p w cert verdicts cuts rs stay e h = λ levels q.
    let same : rs ≡ levels = some_same (sym e ∙ q) in
    subst (λ (ls : List (Option Level)). (k : ℕ) → Contains stay k ↔ IsTrue (undercuts cuts ls k)) same h
  where
    some_same : {X : Type 0} {a b : X} → ◌≡◌ {A = Option X} (Some a) (Some b) → a ≡ b
    some_same e = cc
