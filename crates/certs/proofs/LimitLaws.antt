-- The levels of a tree are Inf or within the limit of values.
use Rattle.std.specs.Prelude.{◌≡◌, ℕ, zero, suc, ◌+◌, ◌^◌, ◌<◌, ◌≤◌, ℤ, pos, ◌+ℤ◌, ◌≤ℤ◌, unsigned_abs, List, [], ◌∷◌, length, take, slice_get, slice_set, slice_index_or, filter_map, Bool, true, false, ◌&&◌, cond, int_lt, nat_eq, nat_lt, Option, Some, None, option_map, unwrap_or, map, refl}
use Rattle.std.specs.List.{list_any}
use Rattle.std.proofs.Common.{arith, ap, sym, ◌∙◌, subst, inl, inr}
use Rattle.std.proofs.lemmas.Int.{ints, clamps}
use Rattle.std.proofs.lemmas.Option.{cond_some, option_and_then_some}
use Rattle.int_model.specs.Integers.{ceil_div}
use Rattle.int_model.specs.Boxes.{Interval, Box, InBox, BoundsWithin, is_empty, is_single, meet, interval_at, below_cut, above_cut}
use Rattle.int_model.specs.Programs.{Program, value}
use Rattle.int_model.specs.RowSums.{row_misses, row_at, ends_at}
use Rattle.int_model.proofs.VolumeLaws.{HasPoints, HasPoints-set, not_empty-points}
use Rattle.int_model.proofs.LimitLaws.{limits-fit}
use Rattle.tighten.specs.Replay.{left_by, tightened, tightened_by, replay}
use Rattle.tighten.specs.declared.step.Step.{Step}
use Rattle.dual_bounds.specs.Vectors.{Multipliers, program_sum, program_bound, within_range}
use Rattle.scenario_changes.specs.Problems.{Problem, IsWithin, root_box}
use Rattle.certs.specs.Levels.{LevelFits, level_le, greater_level, lesser_level, least_level}
use Rattle.certs.specs.Verdicts.{empty_level, level_over, level_on, judged, start_level}
use Rattle.certs.specs.Trees.{Place, root_place, raised, dropped, kept, two_places, children, handed_on, handed, is_valid, IsTree, end_levels}
use Rattle.certs.specs.Claims.{bound_of}
use Rattle.certs.specs.declared.cert.Cert.{Cert}
use Rattle.certs.specs.declared.level.Level.{Level}
use Rattle.certs.specs.declared.level.Level.TheVariants.{Value, Inf}
use Rattle.certs.specs.declared.verdict.Verdict.{Verdict}
use Rattle.certs.specs.declared.verdict.Verdict.TheVariants.{Empty, Misses, Farkas, Bound, Point}
use Rattle.certs.specs.declared.tree.Node.{Node}
use Rattle.certs.specs.declared.tree.Node.TheVariants.{Rest, Leaf, Split}
use Rattle.certs.proofs.BoxParts.{Narrower, Narrower-left}
use Rattle.certs.proofs.TreeCounts.{take-get}
use Rattle.certs.proofs.TreeLaws.{AllWithin, dropped_at, split_facts, option_and_then_is}
use Rattle.certs.proofs.TreeLevels.{flat_map-source, raised-from, one_of_two, kept-from}

-- ---- small boxes

-- a box with points whose ends are small
record IsSmall (box : Box) : Type 0 where
  points : HasPoints box
  bounds : BoundsWithin (10 ^ 6) box

bounds-meet : (box other : Box) → BoundsWithin (10 ^ 6) other → HasPoints (meet box other) → BoundsWithin (10 ^ 6) (meet box other)
bounds-meet [] other b h = tt
bounds-meet (i ∷ box) [] b h = tt
bounds-meet (i ∷ box) (k ∷ other) b h = (omega (arith, ints, clamps, b.0, b.1, h.0), omega (arith, ints, clamps, b.0, b.1, h.0), bounds-meet box other b.2 h.1)

bounds-set : (box : Box) (j : ℕ) (i : Interval) → BoundsWithin (10 ^ 6) box → Narrower i (interval_at box j) → i.low ≤ℤ i.high → BoundsWithin (10 ^ 6) (slice_set box j i)
bounds-set [] j i b n h = tt
bounds-set (k ∷ box) zero i b n h = (omega (arith, ints, b.0, b.1, n.low, n.high, h), omega (arith, ints, b.0, b.1, n.low, n.high, h), b.2)
bounds-set (k ∷ box) (suc j) i b n h = (b.0, b.1, bounds-set box j i b.2 n h)

small-step : (s : Program) (step : Step) (box t : Box) → IsSmall box → tightened s.rows s.ends step box ≡ Some t → IsSmall t
small-step s step box t h e = by_test (left_by (row_at s step.row) (ends_at s step.row) step.side step.column box) (Narrower-left (row_at s step.row) (ends_at s step.row) step.side step.column box) _ refl e
  where
    by_test : (i : Interval) → Narrower i (interval_at box step.column) → (b : Bool) → int_lt i.high i.low ≡ b → cond b None (Some (slice_set box step.column i)) ≡ Some t → IsSmall t
    by_test i n true q r = absurd (cc)
    by_test i n false q r =
        let u : slice_set box step.column i ≡ t = cc in
        let o : i.low ≤ℤ i.high = omega (arith, ints, q) in
        subst (λ (z : Box). IsSmall z) u (record { points = HasPoints-set box step.column i h.points o; bounds = bounds-set box step.column i h.bounds n o })

small-steps : (s : Program) (steps : List Step) (box t : Box) → IsSmall box → tightened_by s.rows s.ends steps box ≡ Some t → IsSmall t
small-steps s [] box t h e = let u : box ≡ t = cc in subst (λ (z : Box). IsSmall z) u h
small-steps s (step ∷ steps) box t h e =
    let m = option_and_then_is (tightened_by s.rows s.ends steps) (tightened s.rows s.ends step box) t e in
    small-steps s steps m.0 t (small-step s step box m.0 h m.1) m.2

small-replay : (s : Program) (steps : List Step) (box t : Box) → BoundsWithin (10 ^ 6) s.bounds → replay s steps box ≡ Some t → IsSmall t
small-replay s steps box t b e = by_test (is_empty (meet box s.bounds)) refl e
  where
    by_test : (b : Bool) → is_empty (meet box s.bounds) ≡ b → cond b None (tightened_by s.rows s.ends steps (meet box s.bounds)) ≡ Some t → IsSmall t
    by_test true q r = absurd (cc)
    by_test false q r =
        let h : HasPoints (meet box s.bounds) = not_empty-points (meet box s.bounds) q in
        small-steps s steps (meet box s.bounds) t (record { points = h; bounds = bounds-meet box s.bounds b h }) r

lows-inside : (box : Box) → HasPoints box → InBox box (map (λ (i : Interval). i.low) box)
lows-inside [] h = tt
lows-inside (i ∷ box) h = (omega (arith, ints), h.0, lows-inside box h.1)

-- ---- levels

range-fits : (z : ℤ) → unsigned_abs (within_range z) ≤ 2 ^ 60
range-fits z = omega (arith, ints, clamps)

value-of-bound : (s : Program) (v : Multipliers) (part : Box) → unsigned_abs (program_bound s v part) ≤ 2 ^ 60
value-of-bound s v part = range-fits (ceil_div (program_sum s v part) (pos v.scale) +ℤ s.constant)

greater-fits : (a b : Level) → LevelFits a → LevelFits b → LevelFits (greater_level a b)
greater-fits a b h g = by_test (level_le a b)
  where
    by_test : (t : Bool) → LevelFits (cond t b a)
    by_test true = g
    by_test false = h

lesser-fits : (a b : Level) → LevelFits a → LevelFits b → LevelFits (lesser_level a b)
lesser-fits a b h g = by_test (level_le a b)
  where
    by_test : (t : Bool) → LevelFits (cond t a b)
    by_test true = h
    by_test false = g

value-fits : (columns rows : ℕ) (s : Program) (part : Box) → IsWithin columns rows s → IsSmall part → unsigned_abs (value s (map (λ (i : Interval). i.low) part)) ≤ 2 ^ 60
value-fits columns rows s part w h =
    let own : Program = record s { bounds = part } in
    (limits-fit own (record { few = w.limits.few; costs = w.limits.costs; bounds = h.bounds; constant = w.limits.constant; rows = w.limits.rows }) (map (λ (i : Interval). i.low) part) (lows-inside part h.points)).value

level_over-fits : (columns rows : ℕ) (s : Program) → IsWithin columns rows s → (vectors : List Multipliers) (v : Verdict) (part : Box) → IsSmall part → (l : Level) → level_over s vectors v part ≡ Some l → LevelFits l
level_over-fits columns rows s w vectors Empty part h l e = absurd (cc)
level_over-fits columns rows s w vectors (Misses i) part h l e =
    let c = cond_some (row_misses s i part) Inf l e in subst (λ (m : Level). LevelFits m) c.1 tt
level_over-fits columns rows s w vectors (Farkas k) part h l e =
    option_and_then_some (λ (v : Multipliers). cond (nat_eq v.scale 0 && int_lt (pos 0) (program_sum s v part)) (Some Inf) None) (slice_get vectors k) l e (λ v found picked.
    let c = cond_some (nat_eq v.scale 0 && int_lt (pos 0) (program_sum s v part)) Inf l picked in subst (λ (m : Level). LevelFits m) c.1 tt)
level_over-fits columns rows s w vectors (Bound k) part h l e =
    option_and_then_some (λ (v : Multipliers). cond (nat_lt 0 v.scale) (Some (Value (program_bound s v part))) None) (slice_get vectors k) l e (λ v found picked.
    let c = cond_some (nat_lt 0 v.scale) (Value (program_bound s v part)) l picked in subst (λ (m : Level). LevelFits m) c.1 (value-of-bound s v part))
level_over-fits columns rows s w vectors Point part h l e =
    let c = cond_some (is_single part) (Value (value s (map (λ (i : Interval). i.low) part))) l e in subst (λ (m : Level). LevelFits m) c.1 (value-fits columns rows s part w h)

judged-fits : (columns rows : ℕ) (s : Program) → IsWithin columns rows s → (box : Box) (cert : Cert) (v : Verdict) (l : Level) → judged s box cert v ≡ Some l → LevelFits l
judged-fits columns rows s w box cert v l e = by_replay (replay s cert.steps box) refl e
  where
    by_empty : (v : Verdict) → empty_level v ≡ Some l → LevelFits l
    by_empty Empty g = let u : Inf ≡ l = cc in subst (λ (m : Level). LevelFits m) u tt
    by_empty (Misses i) g = absurd (cc)
    by_empty (Farkas k) g = absurd (cc)
    by_empty (Bound k) g = absurd (cc)
    by_empty Point g = absurd (cc)

    by_replay : (o : Option Box) → replay s cert.steps box ≡ o → level_on s cert.vectors v o ≡ Some l → LevelFits l
    by_replay None q g = by_empty v g
    by_replay (Some part) q g = level_over-fits columns rows s w cert.vectors v part (small-replay s cert.steps box part w.limits.bounds q) l g

start-fits : (root : Box) (s : Program) → LevelFits (start_level root s)
start-fits root s = by_test (is_empty (meet root s.bounds))
  where
    by_test : (b : Bool) → LevelFits (cond b Inf (Value (program_bound s (record { scale = 1; entries = [] }) (meet root s.bounds))))
    by_test true = tt
    by_test false = value-of-bound s (record { scale = 1; entries = [] }) (meet root s.bounds)

-- ---- a tree

dropped-from : (stay : List ℕ) (ls : List (Option Level)) (k : ℕ) (l : Level) → slice_index_or (dropped stay 0 ls) k None ≡ Some l → slice_index_or ls k None ≡ Some l
dropped-from stay ls k l e = by_test (list_any (nat_eq (0 + k)) stay) (sym (dropped_at stay 0 ls k) ∙ e)
  where
    by_test : (b : Bool) → cond b None (slice_index_or ls k None) ≡ Some l → slice_index_or ls k None ≡ Some l
    by_test true g = absurd (cc)
    by_test false g = g

abbrev AllFit : List (Option Level) → ℕ → Type 0
AllFit ls k = (l : Level) → slice_index_or ls k None ≡ Some l → LevelFits l

module _ (p : Problem) (limits : AllWithin p) (k : ℕ) (s : Program) (found : slice_get p.scenarios k ≡ Some s) where
  root-fits : (ss : List Program) (j : ℕ) → AllFit (map (λ (t : Program). Some (start_level (root_box p.scenarios) t)) ss) j
  root-fits [] j l e = absurd (cc)
  root-fits (t ∷ ss) zero l e = let u : start_level (root_box p.scenarios) t ≡ l = cc in subst (λ (m : Level). LevelFits m) u (start-fits (root_box p.scenarios) t)
  root-fits (t ∷ ss) (suc j) l e = root-fits ss j l e

  raised-fits : (place : Place) (cert : Cert) (verdicts : List Verdict) (rs : List (Option Level)) → raised place.box cert p.scenarios place.levels verdicts ≡ Some rs → AllFit place.levels k → AllFit rs k
  raised-fits place cert verdicts rs e h l g =
      let r = raised-from place.box cert p.scenarios place.levels verdicts rs k s l e found g in
      subst (λ (a : Level). LevelFits a) (sym {b = greater_level r.1 r.2} r.5) (greater-fits r.1 r.2 (h r.1 r.3) (judged-fits p.columns p.rows s (limits k s found) place.box cert r.0 r.2 r.4))

  end-fits : (place : Place) (node : Node) → AllFit place.levels k → AllFit (end_levels p place node) k
  end-fits place Rest h = h
  end-fits place (Leaf cert verdicts) h = by_raised (raised place.box cert p.scenarios place.levels verdicts) refl
    where
      by_raised : (o : Option (List (Option Level))) → raised place.box cert p.scenarios place.levels verdicts ≡ o → AllFit (unwrap_or o []) k
      by_raised None q l g = absurd (cc)
      by_raised (Some rs) q l g = raised-fits place cert verdicts rs q h l g
  end-fits place (Split cert verdicts stay child column v) h = by_raised (raised place.box cert p.scenarios place.levels verdicts) refl
    where
      by_raised : (o : Option (List (Option Level))) → raised place.box cert p.scenarios place.levels verdicts ≡ o → AllFit (unwrap_or (option_map (dropped stay 0) o) []) k
      by_raised None q l g = absurd (cc)
      by_raised (Some rs) q l g = raised-fits place cert verdicts rs q h l (dropped-from stay rs k l g)

  from_split : (count n m : ℕ) (place q : Place) (node : Node) → is_valid p count m place node ≡ true → handed p n (node, place) ≡ q ∷ [] → AllFit place.levels k → AllFit q.levels k
  from_split count n m place q Rest valid e h l g = absurd (cc)
  from_split count n m place q (Leaf cert verdicts) valid e h l g = absurd (cc)
  from_split count n m place q (Split cert verdicts stay child column v) valid e h l g =
      let t = split_facts p count m place cert verdicts stay child column v valid in
      let low : Place = record { box = below_cut t.within column v; levels = kept stay 0 t.levels } in
      let high : Place = record { box = above_cut t.within column v; levels = kept stay 0 t.levels } in
      let two : children p place cert verdicts stay column v ≡ Some (low, high) = ap (λ (o : Option Box). two_places stay column v o (raised place.box cert p.scenarios place.levels verdicts)) t.hull_is ∙ ap (λ (o : Option (List (Option Level))). two_places stay column v (Some t.within) o) t.raised_to in
      let level_is : slice_index_or (kept stay 0 t.levels) k None ≡ Some l = (elim (one_of_two n child low high q (ap (handed_on n child) (sym two) ∙ e)) [ inl u ↦ ap (λ (z : Place). slice_index_or z.levels k None) u ∙ g | inr u ↦ ap (λ (z : Place). slice_index_or z.levels k None) u ∙ g ]) in
      raised-fits place cert verdicts t.levels t.raised_to h l (kept-from stay t.levels k l level_is)

  module _ (placed : List (Node × Place)) (tree : IsTree p placed) where
    places-fit : (d n : ℕ) → n < d → (node : Node) (q : Place) → slice_get placed n ≡ Some (node, q) → AllFit q.levels k
    places-fit zero n h node q e l g = absurd (omega arith)
    places-fit (suc d) zero h node q e l g =
        let first : root_place p ∷ [] ≡ q ∷ [] = (tree.right 0 node q e).arrival in
        let same : root_place p ≡ q = cc in
        root-fits p.scenarios k l (ap (λ (z : Place). slice_index_or z.levels k None) same ∙ g)
    places-fit (suc d) (suc n) h node q e l g =
        let r = flat_map-source (handed p (suc n)) (take (suc n) placed) q (tree.right (suc n) node q e).arrival in
        let t = take-get placed (suc n) r.0 r.1 r.2 in
        from_split (length placed) (suc n) r.0 r.1.1 q r.1.0 (tree.right r.0 r.1.0 r.1.1 t.0).valid r.3 (places-fit d r.0 (omega (arith, t.1)) r.1.0 r.1.1 t.0) l g

    least-fits : (rest : List (Node × Place)) → ((n : ℕ) (e : Node × Place) → slice_get rest n ≡ Some e → AllFit (end_levels p e.1 e.0) k) → LevelFits (least_level (filter_map (λ (e : Node × Place). slice_index_or (end_levels p e.1 e.0) k None) rest))
    least-fits [] h = tt
    least-fits (e ∷ rest) h = by_level (slice_index_or (end_levels p e.1 e.0) k None) refl (least-fits rest (λ n f g. h (suc n) f g))
      where
        by_level : (o : Option Level) → slice_index_or (end_levels p e.1 e.0) k None ≡ o → LevelFits (least_level (filter_map (λ (z : Node × Place). slice_index_or (end_levels p z.1 z.0) k None) rest)) → LevelFits (least_level (filter_map (λ (z : Node × Place). slice_index_or (end_levels p z.1 z.0) k None) (e ∷ rest)))
        by_level None q more = rw q more
        by_level (Some l) q more = rw q (lesser-fits l _ (h 0 e refl l q) more)

pub bound-fits : (p : Problem) (placed : List (Node × Place)) → AllWithin p → IsTree p placed → (k : ℕ) (s : Program) → slice_get p.scenarios k ≡ Some s → LevelFits (bound_of p placed k)
bound-fits p placed limits tree k s found = least-fits p limits k s found placed tree placed (λ n e g. end-fits p limits k s found e.1 e.0 (places-fit p limits k s found placed tree (suc n) n (omega arith) e.0 e.1 g))
