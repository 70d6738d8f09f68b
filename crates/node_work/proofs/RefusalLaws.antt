-- Why scenarios don't remain, the boxes of those that do, and what is concluded of both.
use Rattle.std.specs.Prelude.{◌≡◌, ℕ, zero, suc, ◌+◌, ◌<◌, ◌≤◌, List, [], ◌∷◌, ◌++◌, length, drop, slice_index_or, Bool, true, false, cond, nat_eq, Option, Some, None, option_and_then, is_some, IsSome, refl, ◌⊎◌}
use Rattle.std.proofs.Common.{arith, ap, sym, ◌∙◌, subst, inl, inr}
use Rattle.std.proofs.lemmas.Bool.Decides.{nat_tests}
use Rattle.int_model.specs.Boxes.{Box, is_single}
use Rattle.int_model.specs.Programs.{Program}
use Rattle.tighten.specs.Replay.{replay}
use Rattle.scenario_changes.specs.Problems.{Problem, program_at}
use Rattle.certs.specs.Trees.{some_row_misses, stayer_box, unmissed}
use Rattle.certs.specs.Verdicts.{level_on, row_level}
use Rattle.certs.specs.declared.level.Level.TheVariants.{Inf}
use Rattle.certs.specs.declared.verdict.Verdict.{Verdict}
use Rattle.certs.specs.declared.verdict.Verdict.TheVariants.{Empty, Misses}
use Rattle.certs.specs.declared.cert.Cert.{Cert}
use Rattle.certs.proofs.TreeLaws.{stayer_box-is}
use Rattle.live_sets.proofs.RisingLists.{In}
use Rattle.node_work.specs.Probes.{Found, with_box, remaining, scenarios_of, boxes_of, lows_of}
use Rattle.node_work.specs.Refusals.{IsRefusal, EachRefusal, IsPart, HaveParts, part_of}
use Rattle.node_work.specs.Choices.{IsConcluded, IsJudged, IsKept}
use Rattle.node_work.specs.declared.verdicts.Choice.{Choice}
use Rattle.node_work.proofs.ChoiceLaws.{conclude_refused, conclude_strongest}
use Rattle.node_work.proofs.TotalLaws.{drop_here, drop_end}

some_same : {X : Type 0} {a b : X} → ◌≡◌ {A = Option X} (Some a) (Some b) → a ≡ b
some_same e = cc

same_number : (j k : ℕ) → nat_eq j k ≡ true → j ≡ k
same_number j k e = grind (arith, nat_tests)

other_number : (j k : ℕ) → (j ≡ k → ⊥) → nat_eq j k ≡ false
other_number j k f = grind (arith, nat_tests)

-- ---- boxes, one scenario after another

pub part_none : (live : List ℕ) (boxes : List Box) (s : ℕ) → live ≡ [] → part_of live boxes s ≡ None
part_none live boxes s e = ap (λ (ks : List ℕ). part_of ks boxes s) e

pub part_end : (live : List ℕ) (boxes : List Box) (k s : ℕ) → length boxes ≤ k → part_of live (drop k boxes) s ≡ None
part_end live boxes k s l = ap (λ (bs : List Box). part_of live bs s) (drop_end boxes k l) ∙ without live
  where
    without : (ks : List ℕ) → part_of ks [] s ≡ None
    without [] = refl
    without (j ∷ ks) = refl

pub part_here : (live next : List ℕ) (boxes : List Box) (k s j : ℕ) (b : Box) → live ≡ j ∷ next → k < length boxes → j ≡ s → b ≡ slice_index_or boxes k b → part_of live (drop k boxes) s ≡ Some b
part_here live next boxes k s j b e l same is =
    let test : nat_eq j s ≡ true = grind (arith, nat_tests) in
    ap (λ (ks : List ℕ). part_of ks (drop k boxes) s) e
    ∙ ap (λ (bs : List Box). part_of (j ∷ next) bs s) (drop_here boxes k b l)
    ∙ ap (λ (t : Bool). cond t (Some (slice_index_or boxes k b)) (part_of next (drop (suc k) boxes) s)) test
    ∙ ap (λ (c : Box). Some c) (sym is)

pub part_next : (live next : List ℕ) (boxes : List Box) (k s j : ℕ) → live ≡ j ∷ next → k < length boxes → (j ≡ s → ⊥) → part_of live (drop k boxes) s ≡ part_of next (drop (k + 1) boxes) s
part_next live next boxes k s j e l other =
    let up : suc k ≡ k + 1 = omega arith in
    ap (λ (ks : List ℕ). part_of ks (drop k boxes) s) e
    ∙ ap (λ (bs : List Box). part_of (j ∷ next) bs s) (drop_here boxes k [] l)
    ∙ ap (λ (t : Bool). cond t (Some (slice_index_or boxes k [])) (part_of next (drop (suc k) boxes) s)) (other_number j s other)
    ∙ ap (λ (n : ℕ). part_of next (drop n boxes) s) up

-- a box more
part_more : (live : List ℕ) (boxes : List Box) (k : ℕ) (b : Box) (j : ℕ) (part : Box) → length boxes ≡ length live → part_of (live ++ k ∷ []) (boxes ++ b ∷ []) j ≡ Some part → (part_of live boxes j ≡ Some part) ⊎ ((k ≡ j) × (b ≡ part))
part_more [] (c ∷ boxes) k b j part n e = absurd (omega arith)
part_more (i ∷ live) [] k b j part n e = absurd (omega arith)
part_more [] [] k b j part n e = by_test (nat_eq k j) refl e
  where
    by_test : (t : Bool) → nat_eq k j ≡ t → cond t (Some b) None ≡ Some part → (None ≡ Some part) ⊎ ((k ≡ j) × (b ≡ part))
    by_test true q f = inr (same_number k j q, some_same f)
    by_test false q f = absurd (cc)
part_more (i ∷ live) (c ∷ boxes) k b j part n e = by_test (nat_eq i j) (λ f. part_more live boxes k b j part (omega arith) f) e
  where
    by_test : (t : Bool) → (part_of (live ++ k ∷ []) (boxes ++ b ∷ []) j ≡ Some part → (part_of live boxes j ≡ Some part) ⊎ ((k ≡ j) × (b ≡ part))) → cond t (Some c) (part_of (live ++ k ∷ []) (boxes ++ b ∷ []) j) ≡ Some part → (cond t (Some c) (part_of live boxes j) ≡ Some part) ⊎ ((k ≡ j) × (b ≡ part))
    by_test true more f = inl f
    by_test false more f = more f

pub parts_more : (p : Problem) (live : List ℕ) (boxes : List Box) (k : ℕ) (b : Box) → length boxes ≡ length live → HaveParts p live boxes → IsPart p k b → HaveParts p (live ++ k ∷ []) (boxes ++ b ∷ [])
parts_more p live boxes k b n h g = λ j part e. elim (part_more live boxes k b j part n e) [
  | inl old ↦ h j part old
  | inr new ↦ subst (λ (i : ℕ). IsPart p i part) new.0 (subst (λ (c : Box). IsPart p k c) new.1 g)
]

pub parts_none : (p : Problem) (live : List ℕ) (boxes : List Box) → live ≡ [] → HaveParts p live boxes
parts_none p live boxes e = λ j part q. absurd (let w : None ≡ Some part = sym (part_none live boxes j e) ∙ q in cc)

module _ (p : Problem) (box : Box) (cert : Cert) where
  abbrev box_at : ℕ → Option Box
  box_at k = stayer_box p box cert (program_at p k)

  abbrev part_at : List ℕ → ℕ → Option Box
  part_at live k = part_of (scenarios_of (remaining p box cert live)) (boxes_of (remaining p box cert live)) k

  -- the box of a scenario that remains is its replay
  part_is : (live : List ℕ) (k : ℕ) (part : Box) → part_at live k ≡ Some part → box_at k ≡ Some part
  part_is [] k part e = absurd (cc)
  part_is (j ∷ live) k part e = by_box (box_at j) refl (part_is live k part) e
    where
      by_test : (b : Box) (t : Bool) → nat_eq j k ≡ t → box_at j ≡ Some b → (part_at live k ≡ Some part → box_at k ≡ Some part) → cond t (Some b) (part_at live k) ≡ Some part → box_at k ≡ Some part
      by_test b true q r more f = ap box_at (sym (same_number j k q)) ∙ r ∙ f
      by_test b false q r more f = more f

      by_box : (o : Option Box) → box_at j ≡ o → (part_at live k ≡ Some part → box_at k ≡ Some part) → part_of (scenarios_of (with_box j o (remaining p box cert live))) (boxes_of (with_box j o (remaining p box cert live))) k ≡ Some part → box_at k ≡ Some part
      by_box None r more f = more f
      by_box (Some b) r more f = by_test b (nat_eq j k) refl r more f

  part_there : (live : List ℕ) (k : ℕ) (part : Box) → In live k → box_at k ≡ Some part → part_at live k ≡ Some part
  part_there [] k part i e = absurd i
  part_there (j ∷ live) k part i e = by_box (box_at j) refl (λ h. part_there live k part h e) i
    where
      by_test : (b : Box) (t : Bool) → nat_eq j k ≡ t → box_at j ≡ Some b → (In live k → part_at live k ≡ Some part) → (j ≡ k) ⊎ In live k → cond t (Some b) (part_at live k) ≡ Some part
      by_test b true q r more h = sym r ∙ ap box_at (same_number j k q) ∙ e
      by_test b false q r more (inl s) = absurd (let w : nat_eq j k ≡ true = grind (arith, nat_tests, s) in let v : true ≡ false = sym w ∙ q in cc)
      by_test b false q r more (inr h) = more h

      by_box : (o : Option Box) → box_at j ≡ o → (In live k → part_at live k ≡ Some part) → (j ≡ k) ⊎ In live k → part_of (scenarios_of (with_box j o (remaining p box cert live))) (boxes_of (with_box j o (remaining p box cert live))) k ≡ Some part
      by_box None r more (inl s) = absurd (let w : None ≡ Some part = sym r ∙ ap box_at s ∙ e in cc)
      by_box None r more (inr h) = more h
      by_box (Some b) r more h = by_test b (nat_eq j k) refl r more h

  part_live : (live : List ℕ) (k : ℕ) → In live k → part_at live k ≡ box_at k
  part_live live k i = by_box (box_at k) refl
    where
      none : (o : Option Box) → part_at live k ≡ o → box_at k ≡ None → o ≡ None
      none None q r = refl
      none (Some b) q r = absurd (let w : None ≡ Some b = sym r ∙ part_is live k b q in cc)

      by_box : (o : Option Box) → box_at k ≡ o → part_at live k ≡ o
      by_box None r = none (part_at live k) refl r
      by_box (Some b) r = part_there live k b i r

  pub part_of-live : (live scenarios : List ℕ) (boxes : List Box) (k : ℕ) → scenarios ≡ scenarios_of (remaining p box cert live) → boxes ≡ boxes_of (remaining p box cert live) → In live k → part_of scenarios boxes k ≡ stayer_box p box cert (program_at p k)
  part_of-live live scenarios boxes k e f i =
      ap (λ (ks : List ℕ). part_of ks boxes k) e ∙ ap (λ (bs : List Box). part_of (scenarios_of (remaining p box cert live)) bs k) f ∙ part_live live k i

  -- ---- refusals, one after another

  pub refusals_more : (live : List ℕ) (refusals : List (Option Verdict)) (k : ℕ) (r : Option Verdict) → EachRefusal p box cert.steps live refusals → IsRefusal p box cert.steps k r → EachRefusal p box cert.steps (live ++ k ∷ []) (refusals ++ r ∷ [])
  refusals_more [] [] k r h g = (g, tt)
  refusals_more [] (q ∷ refusals) k r h g = absurd h
  refusals_more (j ∷ live) [] k r h g = absurd h
  refusals_more (j ∷ live) (q ∷ refusals) k r h g = (h.0, refusals_more live refusals k r h.1 g)

  -- the refusal at place i is that of the first of the scenarios that are left
  pub record IsNext (refusals : List (Option Verdict)) (i s : ℕ) (next : List ℕ) : Type 0 where
    pub within : i < length refusals
    pub here : (d : Option Verdict) → IsRefusal p box cert.steps s (slice_index_or refusals i d)
    pub rest : EachRefusal p box cert.steps next (drop (i + 1) refusals)

  pub next_refusal : (refusals : List (Option Verdict)) (i s : ℕ) (next live : List ℕ) → live ≡ s ∷ next → EachRefusal p box cert.steps live (drop i refusals) → IsNext refusals i s next
  next_refusal refusals i s next live e h = go refusals i (subst (λ (ks : List ℕ). EachRefusal p box cert.steps ks (drop i refusals)) e h)
    where
      go : (rs : List (Option Verdict)) (n : ℕ) → EachRefusal p box cert.steps (s ∷ next) (drop n rs) → IsNext rs n s next
      go [] zero g = absurd g
      go [] (suc n) g = absurd g
      go (r ∷ rs) zero g = record { within = omega arith; here = λ d. g.0; rest = g.1 }
      go (r ∷ rs) (suc n) g =
          let t : IsNext rs n s next = go rs n g in
          let up : suc (n + 1) ≡ suc n + 1 = omega arith in
          record {
            within = omega (arith, t.within);
            here = t.here;
            rest = subst (λ (m : ℕ). EachRefusal p box cert.steps next (drop m (r ∷ rs))) up t.rest;
          }

  -- ---- refusals

  pub refused_empty : (k : ℕ) → replay (program_at p k) cert.steps box ≡ None → IsRefusal p box cert.steps k (Some Empty)
  refused_empty k e = λ vectors. ap (level_on (program_at p k) vectors Empty) e

  pub refused_missed : (k i : ℕ) (part : Box) → replay (program_at p k) cert.steps box ≡ Some part → row_level (program_at p k) i part ≡ Some Inf → IsRefusal p box cert.steps k (Some (Misses i))
  refused_missed k i part r e = λ vectors. ap (level_on (program_at p k) vectors (Misses i)) r ∙ e

  -- ---- what is concluded

  unmissed_is : (s : Program) (part : Box) → stayer_box p box cert s ≡ Some part → some_row_misses s p.rows part ≡ false
  unmissed_is s part e = by_replay (replay s cert.steps box) e
    where
      by_test : (r : Box) (b : Bool) → some_row_misses s p.rows r ≡ b → cond b None (Some r) ≡ Some part → some_row_misses s p.rows part ≡ false
      by_test r true q f = absurd (cc)
      by_test r false q f = subst (λ (c : Box). some_row_misses s p.rows c ≡ false) (some_same f) q

      by_replay : (o : Option Box) → option_and_then (unmissed s p.rows) o ≡ Some part → some_row_misses s p.rows part ≡ false
      by_replay None f = absurd (cc)
      by_replay (Some r) f = by_test r (some_row_misses s p.rows r) refl f

  -- a verdict, and a point more or the same points
  pub record IsSettled (k : ℕ) (old : Found) (v : Verdict) (new : Found) : Type 0 where
    pub choice : Choice
    pub is_point : Bool
    pub now : Box
    pub concluded : IsConcluded p box cert k choice is_point now
    pub kept : IsKept old k (lows_of now) is_point new
    pub is : v ≡ choice.verdict

  settled_by : (k : ℕ) (refusal : Option Verdict) (o : Option Box) → IsRefusal p box cert.steps k refusal → o ≡ stayer_box p box cert (program_at p k) → ((part : Box) → o ≡ Some part → IsPart p k part) → (old : Found) (v : Verdict) (new : Found) → IsJudged (program_at p k) cert.vectors k refusal o old v new → IsSettled k old v new
  settled_by k (Some w) o h e parts old v new j = record {
    choice = record { verdict = w; level = Inf };
    is_point = false;
    now = [];
    concluded = conclude_refused p box cert k [] w (h cert.vectors);
    kept = j.1;
    is = j.0;
  }
  settled_by k None None h e parts old v new j = absurd j
  settled_by k None (Some part) h e parts old v new j = record {
    choice = record { verdict = v; level = j.level };
    is_point = is_single part;
    now = part;
    concluded = conclude_strongest p box cert k part (record { verdict = v; level = j.level }) (is_single part) (stayer_box-is p box cert (program_at p k) part (sym e)) (unmissed_is (program_at p k) part (sym e)) j.strongest refl (parts part refl).feasible;
    kept = j.kept;
    is = refl;
  }

  pub settled : (live scenarios : List ℕ) (boxes : List Box) (k : ℕ) (refusal : Option Verdict) → scenarios ≡ scenarios_of (remaining p box cert live) → boxes ≡ boxes_of (remaining p box cert live) → In live k → IsRefusal p box cert.steps k refusal → HaveParts p scenarios boxes → (old : Found) (v : Verdict) (new : Found) → IsJudged (program_at p k) cert.vectors k refusal (part_of scenarios boxes k) old v new → IsSettled k old v new
  settled live scenarios boxes k refusal e f i h parts old v new j = settled_by k refusal (part_of scenarios boxes k) h (part_of-live live scenarios boxes k e f i) (parts k) old v new j

  -- a scenario that no verdict refuses has a box
  pub unrefused : (live scenarios : List ℕ) (boxes : List Box) (k : ℕ) (refusal : Option Verdict) → scenarios ≡ scenarios_of (remaining p box cert live) → boxes ≡ boxes_of (remaining p box cert live) → In live k → IsRefusal p box cert.steps k refusal → refusal ≡ None → IsSome (part_of scenarios boxes k)
  unrefused live scenarios boxes k refusal e f i h none = ap (λ (o : Option Box). is_some o) (part_of-live live scenarios boxes k e f i) ∙ subst (λ (r : Option Verdict). IsRefusal p box cert.steps k r) none h
