-- The log of claims that a tree shows can be read again.
use Rattle.std.specs.Prelude.{◌≡◌, ℕ, zero, suc, ◌+◌, ◌^◌, ◌<◌, ◌≤◌, ℤ, pos, negsuc, ◌≤ℤ◌, ◌<ℤ◌, unsigned_abs, Bool, true, false, ◌&&◌, ◌||◌, not, cond, nat_lt, nat_le, nat_eq, int_lt, int_le, is_some, List, [], ◌∷◌, ◌++◌, length, map, take, flat_map, slice_get, slice_index_or, slice_set, Option, Some, None, option_map, option_and_then, IfSome, IsTrue, refl}
use Rattle.std.specs.List.{list_all, list_any}
use Rattle.std.proofs.Common.{arith, ap, sym, ◌∙◌, subst}
use Rattle.std.proofs.lemmas.Bool.Decides.{nat_tests}
use Rattle.std.proofs.lemmas.Int.{ints, clamps}
use Rattle.std.proofs.lemmas.Option.{slice_get_within}
use native.Mathlib.Decide.{dec_lt}
use Rattle.int_model.specs.Boxes.{Box, Interval, InBox, BoundsWithin, interval_at, at_most, at_least, below_cut, above_cut, hull, hull_of}
use Rattle.int_model.specs.Programs.{Program, Feasible, HasShape, value}
use Rattle.int_model.specs.RowSums.{row_at, ends_at, row_misses, misses_ends}
use Rattle.int_model.specs.declared.model.Ends.{Ends}
use Rattle.int_model.proofs.BoxLaws.{length-InBox}
use Rattle.int_model.proofs.LimitLaws.{limits-fit}
use Rattle.tighten.specs.Replay.{replay}
use Rattle.tighten.specs.declared.step.Step.{Step}
use Rattle.dual_bounds.specs.Vectors.{Entry, Multipliers, KeepsLimits, AreEntries}
use Rattle.scenario_changes.specs.Answers.{HasValue}
use Rattle.scenario_changes.specs.Problems.{Problem, IsWithin, AreWithin, root_box}
use Rattle.scenario_changes.specs.declared.answer.Answer.{Answer}
use Rattle.scenario_changes.specs.declared.answer.Answer.TheVariants.{Infeasible, Optimal, Limit}
use Rattle.certs.specs.Verdicts.{judged, level_on, row_level, farkas_level, bound_level}
use Rattle.certs.specs.Trees.{Place, step_within, vector_within, cert_fits, root_place, is_live, raised, kept, stayer_box, stayer_boxes, hull_of_all, stayers_hull, two_places, children, handed, handed_on, arrivals, is_rising, splits_inside, is_valid, IsTree}
use Rattle.certs.specs.Claims.{Accepted, ClaimHolds}
use Rattle.certs.specs.declared.cert.Cert.{Cert}
use Rattle.certs.specs.declared.level.Level.{Level}
use Rattle.certs.specs.declared.level.Level.TheVariants.{Inf}
use Rattle.certs.specs.declared.verdict.Verdict.{Verdict}
use Rattle.certs.specs.declared.verdict.Verdict.TheVariants.{Empty, Misses, Farkas, Bound, Point}
use Rattle.certs.specs.declared.tree.Node.{Node}
use Rattle.certs.specs.declared.tree.Node.TheVariants.{Rest, Leaf, Split}
use Rattle.certs.proofs.ArrivalLemmas.{root_wide}
use Rattle.certs.proofs.BoxParts.{Narrower, Narrower-refl, Inside, Inside-refl, Inside-trans, PartOf}
use Rattle.certs.proofs.ClaimLaws.{all_within}
use Rattle.certs.proofs.LevelLists.{kept_some}
use Rattle.certs.proofs.TreeCounts.{stayers_hull-part, take-get, Inside-length}
use Rattle.certs.proofs.TreeLaws.{AllWithin, both_boxes-are, option_and_then_is, option_map_some, is_some-is, slice_get-some}
use Rattle.tree_log.specs.HasText.{is_within, point_has_text, answer_has_text, step_has_text, entry_has_text, vector_has_text, verdict_has_text, cert_has_text, stay_has_text, node_has_text, has_text}
use Rattle.tree_log.specs.Laws.{BoundFits, KeepsVectors, VectorsKeep, KeepsAll}
use Rattle.tree_log.specs.declared.file.LogFile.{LogFile}
use Rattle.tree_log.proofs.WordLaws.{both, all, lt_test, lt_true, le_test, le_true, eq_true, abs_within, within_abs}

from_each : {X : Type 0} (f : X → Bool) (xs : List X) → ((k : ℕ) (x : X) → slice_get xs k ≡ Some x → f x ≡ true) → list_all f xs ≡ true
from_each f [] h = refl
from_each f (x ∷ xs) h = all (f x) (list_all f xs) (h 0 x refl) (from_each f xs (λ k y e. h (suc k) y e))

each_of : {X : Type 0} (f : X → Bool) (xs : List X) (k : ℕ) (x : X) → list_all f xs ≡ true → slice_get xs k ≡ Some x → f x ≡ true
each_of f [] k x h e = absurd (cc)
each_of f (y ∷ xs) zero x h e = let same : y ≡ x = cc in subst (λ z. f z ≡ true) same (both (f y) (list_all f xs) h).0
each_of f (y ∷ xs) (suc k) x h e = each_of f xs k x (both (f y) (list_all f xs) h).1 e

-- ---- vectors

rise : (least : ℕ) (entries : List Entry) → AreEntries least entries → is_rising (map (λ (e : Entry). e.0) entries) ≡ true
rise least [] h = refl
rise least (e ∷ []) h = refl
rise least (e ∷ d ∷ entries) h = all (nat_lt e.0 d.0) (is_rising (map (λ (z : Entry). z.0) (d ∷ entries))) (lt_true e.0 d.0 (omega (arith, h.3.0))) (rise (e.0 + 1) (d ∷ entries) h.3)

not_none : (z : ℤ) → (z ≡ pos 0 → ⊥) → not (is_within 0 z) ≡ true
not_none z h = by_test (is_within 0 z) refl
  where
    by_test : (b : Bool) → is_within 0 z ≡ b → not b ≡ true
    by_test false e = refl
    by_test true e = let small : unsigned_abs z ≤ 0 = within_abs 0 z e in absurd (h (omega (arith, ints, small)))

entries_fit : (rows least : ℕ) (entries : List Entry) → AreEntries least entries → list_all (λ (e : Entry). nat_lt e.0 rows) entries ≡ true → list_all (entry_has_text rows) entries ≡ true
entries_fit rows least [] h g = refl
entries_fit rows least (e ∷ entries) h g =
    let parts = both (nat_lt e.0 rows) (list_all (λ (z : Entry). nat_lt z.0 rows) entries) g in
    all (entry_has_text rows e) (list_all (entry_has_text rows) entries)
    (all (nat_lt e.0 rows && is_within (2 ^ 40) e.1) (not (is_within 0 e.1)) (all (nat_lt e.0 rows) (is_within (2 ^ 40) e.1) parts.0 (abs_within (2 ^ 40) e.1 h.1)) (not_none e.1 h.2))
    (entries_fit rows (e.0 + 1) entries h.3 parts.1)

vector_fits : (rows : ℕ) (v : Multipliers) → KeepsLimits v → vector_within rows v ≡ true → vector_has_text rows v ≡ true
vector_fits rows v h g =
    all _ (is_rising (map (λ (e : Entry). e.0) v.entries))
    (all _ (list_all (entry_has_text rows) v.entries)
    (all (nat_le v.scale (2 ^ 20)) (nat_le (length v.entries) 128) (le_true v.scale (2 ^ 20) h.scale) (le_true (length v.entries) 128 h.few))
    (entries_fit rows 0 v.entries h.entries g))
    (rise 0 v.entries h.entries)

-- ---- verdicts

past_end : {X : Type 0} (xs : List X) (k : ℕ) (d : X) → length xs ≤ k → slice_index_or xs k d ≡ d
past_end [] k d h = refl
past_end (x ∷ xs) zero d h = absurd (omega (arith, h))
past_end (x ∷ xs) (suc k) d h = past_end xs k d (omega (arith, h))

past_misses : (columns rows : ℕ) (s : Program) (i : ℕ) (box : Box) → HasShape columns rows s → rows ≤ i → row_misses s i box ≡ false
past_misses columns rows s i box h past =
    let none : Ends = record { lower = None; upper = None } in
    let row : row_at s i ≡ [] = past_end s.rows i [] (omega (arith, h.rows, past)) in
    let ends : ends_at s i ≡ none = past_end s.ends i none (omega (arith, h.ends, past)) in
    ap (λ (e : Ends). misses_ends (row_at s i) e box) ends

row_there : (columns rows : ℕ) (s : Program) (i : ℕ) (box : Box) → HasShape columns rows s → row_misses s i box ≡ true → i < rows
row_there columns rows s i box h e = by_test (dec_lt i rows)
  where
    by_test : Dec (i < rows) → i < rows
    by_test (yes g) = g
    by_test (no g) = absurd (let both_are : true ≡ false = sym e ∙ past_misses columns rows s i box h (omega arith) in cc)

vector_there : (vectors : List Multipliers) (k : ℕ) (f : Multipliers → Option Level) (l : Level) → length vectors ≤ 2 → option_and_then f (slice_get vectors k) ≡ Some l → nat_lt k 10 ≡ true
vector_there vectors k f l few e =
    let v = option_and_then_is f (slice_get vectors k) l e in
    let below : k < length vectors = slice_get_within vectors k v.0 v.1 in
    lt_true k 10 (omega (arith, below, few))

verdict_fits : (columns rows : ℕ) (s : Program) (box : Box) (cert : Cert) (verdict : Verdict) (l : Level) → HasShape columns rows s → length cert.vectors ≤ 2 → judged s box cert verdict ≡ Some l → verdict_has_text rows verdict ≡ true
verdict_fits columns rows s box cert Empty l h few e = refl
verdict_fits columns rows s box cert Point l h few e = refl
verdict_fits columns rows s box cert (Misses i) l h few e = by_replay (replay s cert.steps box) e
  where
    by_replay : (o : Option Box) → level_on s cert.vectors (Misses i) o ≡ Some l → nat_lt i rows ≡ true
    by_replay None g = absurd (cc)
    by_replay (Some t) g = by_test (row_misses s i t) refl g
      where
        by_test : (b : Bool) → row_misses s i t ≡ b → cond b (Some Inf) None ≡ Some l → nat_lt i rows ≡ true
        by_test true q r = lt_true i rows (row_there columns rows s i t h q)
        by_test false q r = absurd (cc)
verdict_fits columns rows s box cert (Farkas k) l h few e = by_replay (replay s cert.steps box) e
  where
    by_replay : (o : Option Box) → level_on s cert.vectors (Farkas k) o ≡ Some l → nat_lt k 10 ≡ true
    by_replay None g = absurd (cc)
    by_replay (Some t) g = vector_there cert.vectors k (farkas_level s t) l few g
verdict_fits columns rows s box cert (Bound k) l h few e = by_replay (replay s cert.steps box) e
  where
    by_replay : (o : Option Box) → level_on s cert.vectors (Bound k) o ≡ Some l → nat_lt k 10 ≡ true
    by_replay None g = absurd (cc)
    by_replay (Some t) g = vector_there cert.vectors k (bound_level s t) l few g

-- what is known of verdicts that raise levels
record Raising (rows : ℕ) (ss : List Program) (ls : List (Option Level)) (vs : List Verdict) (rs : List (Option Level)) : Type 0 where
  fit : list_all (verdict_has_text rows) vs ≡ true
  few : length vs ≤ length ss
  live : (k : ℕ) → k < length ss → is_live ls k ≡ true → (0 < length vs) × (is_live rs k ≡ true)

raising : (columns rows : ℕ) (box : Box) (cert : Cert) (ss : List Program) (ls : List (Option Level)) (vs : List Verdict) (rs : List (Option Level)) → ((k : ℕ) (s : Program) → slice_get ss k ≡ Some s → HasShape columns rows s) → length cert.vectors ≤ 2 → raised box cert ss ls vs ≡ Some rs → Raising rows ss ls vs rs
raising columns rows box cert [] ls [] rs shapes few e = record { fit = refl; few = omega arith; live = λ k lt. absurd (omega (arith, lt)) }
raising columns rows box cert [] ls (v ∷ vs) rs shapes few e = absurd (cc)
raising columns rows box cert (s ∷ ss) [] vs rs shapes few e = absurd (cc)
raising columns rows box cert (s ∷ ss) (None ∷ ls) vs rs shapes few e =
    let m = option_map_some (λ rest. None ∷ rest) (raised box cert ss ls vs) rs e in
    let r : Raising rows ss ls vs m.0 = raising columns rows box cert ss ls vs m.0 (λ k t g. shapes (suc k) t g) few m.1 in
    record {
      fit = r.fit;
      few = omega (arith, r.few);
      live = λ k lt here. by_number m.0 m.2 r k lt here;
    }
  where
    by_number : (rest : List (Option Level)) → None ∷ rest ≡ rs → Raising rows ss ls vs rest → (k : ℕ) → k < suc (length ss) → is_live (None ∷ ls) k ≡ true → (0 < length vs) × (is_live rs k ≡ true)
    by_number rest q r zero lt here = absurd (cc)
    by_number rest q r (suc k) lt here = let d = r.live k (omega (arith, lt)) here in (d.0, subst (λ (xs : List (Option Level)). is_live xs (suc k) ≡ true) q d.1)
raising columns rows box cert (s ∷ ss) (Some l ∷ ls) [] rs shapes few e = absurd (cc)
raising columns rows box cert (s ∷ ss) (Some l ∷ ls) (v ∷ vs) rs shapes few e =
    let j = option_and_then_is _ (judged s box cert v) rs e in
    let m = option_map_some _ (raised box cert ss ls vs) rs j.2 in
    let r : Raising rows ss ls vs m.0 = raising columns rows box cert ss ls vs m.0 (λ k t g. shapes (suc k) t g) few m.1 in
    record {
      fit = all (verdict_has_text rows v) (list_all (verdict_has_text rows) vs) (verdict_fits columns rows s box cert v j.0 (shapes 0 s refl) few j.1) r.fit;
      few = omega (arith, r.few);
      live = λ k lt here. by_number _ m.0 m.2 r k lt here;
    }
  where
    by_number : (g : Level) (rest : List (Option Level)) → Some g ∷ rest ≡ rs → Raising rows ss ls vs rest → (k : ℕ) → k < suc (length ss) → is_live (Some l ∷ ls) k ≡ true → (0 < length (v ∷ vs)) × (is_live rs k ≡ true)
    by_number g rest q r zero lt here = (omega arith, subst (λ (xs : List (Option Level)). is_live xs zero ≡ true) q refl)
    by_number g rest q r (suc k) lt here = let d = r.live k (omega (arith, lt)) here in (omega arith, subst (λ (xs : List (Option Level)). is_live xs (suc k) ≡ true) q d.1)

-- ---- boxes

inside_set : (box : Box) (j : ℕ) (i : Interval) → Narrower i (interval_at box j) → Inside (slice_set box j i) box
inside_set [] j i h = tt
inside_set (k ∷ box) zero i h = (h, Inside-refl box)
inside_set (k ∷ box) (suc j) i h = (Narrower-refl k, inside_set box j i h)

inside_at : (a b : Box) (j : ℕ) → Inside a b → Narrower (interval_at a j) (interval_at b j)
inside_at [] [] j h = Narrower-refl (record { low = pos 0; high = pos 0 })
inside_at [] (k ∷ b) j h = absurd h
inside_at (i ∷ a) [] j h = absurd h
inside_at (i ∷ a) (k ∷ b) zero h = h.0
inside_at (i ∷ a) (k ∷ b) (suc j) h = inside_at a b j h.1

at_within : (most : ℕ) (box : Box) (j : ℕ) → BoundsWithin most box → (unsigned_abs (interval_at box j).low ≤ most) × (unsigned_abs (interval_at box j).high ≤ most)
at_within most [] j h = (omega arith, omega arith)
at_within most (i ∷ box) zero h = (h.0, h.1)
at_within most (i ∷ box) (suc j) h = at_within most box j h.2

hull_within : (most : ℕ) (a b : Box) → BoundsWithin most a → BoundsWithin most b → BoundsWithin most (hull a b)
hull_within most [] b h g = tt
hull_within most (i ∷ a) [] h g = tt
hull_within most (i ∷ a) (k ∷ b) h g = (omega (arith, ints, clamps, h.0, g.0), omega (arith, ints, clamps, h.1, g.1), hull_within most a b h.2 g.2)

root_within : (most : ℕ) (ss : List Program) → ((k : ℕ) (s : Program) → slice_get ss k ≡ Some s → BoundsWithin most s.bounds) → BoundsWithin most (root_box ss)
root_within most [] h = tt
root_within most (s ∷ ss) h = from_first s.bounds ss (h 0 s refl) (λ k t e. h (suc k) t e)
  where
    from_first : (box : Box) (ts : List Program) → BoundsWithin most box → ((k : ℕ) (t : Program) → slice_get ts k ≡ Some t → BoundsWithin most t.bounds) → BoundsWithin most (hull_of box (map (λ (t : Program). t.bounds) ts))
    from_first box [] b g = b
    from_first box (t ∷ ts) b g = hull_within most box (hull_of t.bounds (map (λ (u : Program). u.bounds) ts)) b (from_first t.bounds ts (g 0 t refl) (λ k u e. g (suc k) u e))

point_within : (most : ℕ) (box : Box) (x : List ℤ) → BoundsWithin most box → InBox box x → list_all (is_within most) x ≡ true
point_within most [] [] b h = refl
point_within most [] (z ∷ x) b h = absurd h
point_within most (i ∷ box) [] b h = absurd h
point_within most (i ∷ box) (z ∷ x) b h =
    all (is_within most z) (list_all (is_within most) x) (abs_within most z (omega (arith, ints, h.0, h.1, b.0, b.1))) (point_within most box x b.2 h.2)

-- ---- places

-- a node's box has the columns and lies in the root's, and a scenario is live there
record IsPlaced (p : Problem) (q : Place) : Type 0 where
  long : length q.box ≡ p.columns
  inside : Inside q.box (root_box p.scenarios)
  live : (k : ℕ) × (k < length p.scenarios) × (is_live q.levels k ≡ true)

abbrev ArePlaced : Problem → List Place → Type 0
ArePlaced p [] = Unit {0}
ArePlaced p (q ∷ qs) = IsPlaced p q × ArePlaced p qs

placed_append : (p : Problem) (qs rs : List Place) → ArePlaced p qs → ArePlaced p rs → ArePlaced p (qs ++ rs)
placed_append p [] rs h g = g
placed_append p (q ∷ qs) rs h g = (h.0, placed_append p qs rs h.1 g)

root_live : (ss : List Program) (f : Program → Level) → 0 < length ss → is_live (map (λ (s : Program). Some (f s)) ss) 0 ≡ true
root_live [] f h = absurd (omega (arith, h))
root_live (s ∷ ss) f h = refl

root_placed : (p : Problem) → AreWithin p → IsPlaced p (root_place p)
root_placed p within = record {
  long = root_wide p within;
  inside = Inside-refl (root_box p.scenarios);
  live = (0, within.some_scenario, root_live p.scenarios _ within.some_scenario);
}

-- the first of the stayers is a scenario that is live
stayer_there : (p : Problem) (q : Place) (cert : Cert) (stay : List ℕ) (h : Box) → stayers_hull p q.box cert stay ≡ Some h → list_all (is_live q.levels) stay ≡ true → (k : ℕ) × (k < length p.scenarios) × (is_live q.levels k ≡ true) × (list_any (nat_eq k) stay ≡ true)
stayer_there p q cert [] h e g = absurd (cc)
stayer_there p q cert (k ∷ ks) h e g =
    let b = option_and_then_is hull_of_all (stayer_boxes p q.box cert (k ∷ ks)) h e in
    let m = both_boxes-are (option_and_then (stayer_box p q.box cert) (slice_get p.scenarios k)) (stayer_boxes p q.box cert ks) b.0 b.1 in
    let s = option_and_then_is (stayer_box p q.box cert) (slice_get p.scenarios k) m.0 m.2 in
    let same : nat_eq k k ≡ true = eq_true k k refl in
    (k, slice_get_within p.scenarios k s.0 s.1, (both (is_live q.levels k) (list_all (is_live q.levels) ks) g).0, ap (λ (t : Bool). t || list_any (nat_eq k) ks) same)

stayers_below : (p : Problem) (box : Box) (cert : Cert) (stay : List ℕ) (ts : List Box) → stayer_boxes p box cert stay ≡ Some ts → list_all (λ k. nat_lt k (length p.scenarios)) stay ≡ true
stayers_below p box cert [] ts e = refl
stayers_below p box cert (k ∷ ks) ts e =
    let m = both_boxes-are (option_and_then (stayer_box p box cert) (slice_get p.scenarios k)) (stayer_boxes p box cert ks) ts e in
    let s = option_and_then_is (stayer_box p box cert) (slice_get p.scenarios k) m.0 m.2 in
    all (nat_lt k (length p.scenarios)) (list_all (λ j. nat_lt j (length p.scenarios)) ks) (lt_true k (length p.scenarios) (slice_get_within p.scenarios k s.0 s.1)) (stayers_below p box cert ks m.1 m.3)

-- the parts of a valid split's test
record SplitParts (p : Problem) (count n : ℕ) (q : Place) (cert : Cert) (verdicts : List Verdict) (stay : List ℕ) (child column : ℕ) (v : ℤ) : Type 0 where
  fits : cert_fits p cert ≡ true
  raised_is : is_some (raised q.box cert p.scenarios q.levels verdicts) ≡ true
  rising : is_rising stay ≡ true
  live : list_all (is_live q.levels) stay ≡ true
  column_below : nat_lt column p.columns ≡ true
  inside : splits_inside (stayers_hull p q.box cert stay) column v ≡ true
  later : nat_lt n child ≡ true
  last : nat_lt (suc child) count ≡ true

split_parts : (p : Problem) (count n : ℕ) (q : Place) (cert : Cert) (verdicts : List Verdict) (stay : List ℕ) (child column : ℕ) (v : ℤ) → is_valid p count n q (Split cert verdicts stay child column v) ≡ true → SplitParts p count n q cert verdicts stay child column v
split_parts p count n q cert verdicts stay child column v e =
    let t = both _ (nat_lt (suc child) count) e in
    let u = both _ (nat_lt n child) t.0 in
    let w = both _ (splits_inside (stayers_hull p q.box cert stay) column v) u.0 in
    let x = both _ (nat_lt column p.columns) w.0 in
    let y = both _ (list_all (is_live q.levels) stay) x.0 in
    let z = both _ (is_rising stay) y.0 in
    let a = both (cert_fits p cert) (is_some (raised q.box cert p.scenarios q.levels verdicts)) z.0 in
    record { fits = a.0; raised_is = a.1; rising = z.1; live = y.1; column_below = x.1; inside = w.1; later = u.1; last = t.1 }

record CertParts (p : Problem) (cert : Cert) : Type 0 where
  few_steps : nat_le (length cert.steps) 128 ≡ true
  steps : list_all (step_within p.rows p.columns) cert.steps ≡ true
  few_vectors : nat_le (length cert.vectors) 2 ≡ true
  vectors : list_all (vector_within p.rows) cert.vectors ≡ true

cert_parts : (p : Problem) (cert : Cert) → cert_fits p cert ≡ true → CertParts p cert
cert_parts p cert e =
    let t = both _ (list_all (vector_within p.rows) cert.vectors) e in
    let u = both _ (nat_le (length cert.vectors) 2) t.0 in
    let w = both (nat_le (length cert.steps) 128) (list_all (step_within p.rows p.columns) cert.steps) u.0 in
    record { few_steps = w.0; steps = w.1; few_vectors = u.1; vectors = t.1 }

-- the hull of a split, and its value in it
record HullParts (p : Problem) (q : Place) (cert : Cert) (stay : List ℕ) (column : ℕ) (v : ℤ) : Type 0 where
  hull_of_them : Box
  is : stayers_hull p q.box cert stay ≡ Some hull_of_them
  low : (interval_at hull_of_them column).low ≤ℤ v
  high : v <ℤ (interval_at hull_of_them column).high

hull_parts : (p : Problem) (q : Place) (cert : Cert) (stay : List ℕ) (column : ℕ) (v : ℤ) → splits_inside (stayers_hull p q.box cert stay) column v ≡ true → HullParts p q cert stay column v
hull_parts p q cert stay column v e = by_hull (stayers_hull p q.box cert stay) refl e
  where
    by_hull : (o : Option Box) → stayers_hull p q.box cert stay ≡ o → splits_inside o column v ≡ true → HullParts p q cert stay column v
    by_hull None g f = absurd (cc)
    by_hull (Some h) g f =
        let t = both (int_le (interval_at h column).low v) (int_lt v (interval_at h column).high) f in
        record { hull_of_them = h; is = g; low = omega (arith, ints, t.0); high = omega (arith, ints, t.1) }

shapes_of : (p : Problem) → AllWithin p → (k : ℕ) (s : Program) → slice_get p.scenarios k ≡ Some s → HasShape p.columns p.rows s
shapes_of p limits k s e = (limits k s e).shape

two_placed : (p : Problem) (k child : ℕ) (low high : Place) → IsPlaced p low → IsPlaced p high → ArePlaced p (handed_on k child (Some (low, high)))
two_placed p k child low high g h = by_test (nat_eq k child) (nat_eq k (suc child))
  where
    by_test : (a b : Bool) → ArePlaced p (cond a (low ∷ []) (cond b (high ∷ []) []))
    by_test true b = (g, tt)
    by_test false true = (h, tt)
    by_test false false = tt

handed_placed : (p : Problem) → AreWithin p → (count n k : ℕ) (q : Place) (node : Node) → IsPlaced p q → is_valid p count n q node ≡ true → ArePlaced p (handed p k (node, q))
handed_placed p within count n k q Rest g e = tt
handed_placed p within count n k q (Leaf cert verdicts) g e = tt
handed_placed p within count n k q (Split cert verdicts stay child column v) g e =
    let limits = all_within p within in
    let t = split_parts p count n q cert verdicts stay child column v e in
    let h = hull_parts p q cert stay column v t.inside in
    let r = is_some-is (raised q.box cert p.scenarios q.levels verdicts) t.raised_is in
    let few : length cert.vectors ≤ 2 = le_test (length cert.vectors) 2 (cert_parts p cert t.fits).few_vectors in
    let lifted : Raising p.rows p.scenarios q.levels verdicts r.0 = raising p.columns p.rows q.box cert p.scenarios q.levels verdicts r.0 (shapes_of p limits) few r.1 in
    let s = stayer_there p q cert stay h.hull_of_them h.is t.live in
    let part : PartOf h.hull_of_them q.box = stayers_hull-part p limits q.box g.long cert stay h.hull_of_them h.is in
    let own : is_live (kept stay 0 r.0) s.0 ≡ true = ap is_some (sym (kept_some stay r.0 s.0 s.3)) ∙ (lifted.live s.0 s.1 s.2).1 in
    let low : Place = record { box = below_cut h.hull_of_them column v; levels = kept stay 0 r.0 } in
    let high : Place = record { box = above_cut h.hull_of_them column v; levels = kept stay 0 r.0 } in
    let below : Inside low.box h.hull_of_them = inside_set h.hull_of_them column _ (record { low = omega (arith, ints); high = omega (arith, ints, clamps) }) in
    let above : Inside high.box h.hull_of_them = inside_set h.hull_of_them column _ (record { low = omega (arith, ints, clamps); high = omega (arith, ints) }) in
    let two : children p q cert verdicts stay column v ≡ Some (low, high) = ap (λ (o : Option Box). two_places stay column v o (raised q.box cert p.scenarios q.levels verdicts)) h.is ∙ ap (λ (o : Option (List (Option Level))). two_places stay column v (Some h.hull_of_them) o) r.1 in
    let placed_low : IsPlaced p low = record { long = Inside-length low.box q.box (Inside-trans low.box h.hull_of_them q.box below part.inside) ∙ g.long; inside = Inside-trans low.box q.box (root_box p.scenarios) (Inside-trans low.box h.hull_of_them q.box below part.inside) g.inside; live = (s.0, s.1, own) } in
    let placed_high : IsPlaced p high = record { long = Inside-length high.box q.box (Inside-trans high.box h.hull_of_them q.box above part.inside) ∙ g.long; inside = Inside-trans high.box q.box (root_box p.scenarios) (Inside-trans high.box h.hull_of_them q.box above part.inside) g.inside; live = (s.0, s.1, own) } in
    subst (λ (o : Option (Place × Place)). ArePlaced p (handed_on k child o)) (sym two) (two_placed p k child low high placed_low placed_high)

flat_map_placed : (p : Problem) (f : Node × Place → List Place) (es : List (Node × Place)) → ((i : ℕ) (e : Node × Place) → slice_get es i ≡ Some e → ArePlaced p (f e)) → ArePlaced p (flat_map f es)
flat_map_placed p f [] h = tt
flat_map_placed p f (e ∷ es) h = placed_append p (f e) (flat_map f es) (h 0 e refl) (flat_map_placed p f es (λ i z g. h (suc i) z g))

all_placed : (p : Problem) → AreWithin p → (placed : List (Node × Place)) → IsTree p placed → (d i : ℕ) → i < d → (node : Node) (q : Place) → slice_get placed i ≡ Some (node, q) → IsPlaced p q
all_placed p within placed tree zero i l node q e = absurd (omega (arith, l))
all_placed p within placed tree (suc d) i l node q e = by_number i l (tree.right i node q e).arrival (λ k m n z g. all_placed p within placed tree d k (omega (arith, l, m)) n z g)
  where
    by_number : (i : ℕ) → i < suc d → arrivals p placed i ≡ q ∷ [] → ((k : ℕ) → k < i → (n : Node) (z : Place) → slice_get placed k ≡ Some (n, z) → IsPlaced p z) → IsPlaced p q
    by_number zero l a h = let u : root_place p ≡ q = cc in subst (λ (z : Place). IsPlaced p z) u (root_placed p within)
    by_number (suc i) l a h =
        let s : ArePlaced p (flat_map (handed p (suc i)) (take (suc i) placed)) = flat_map_placed p (handed p (suc i)) (take (suc i) placed) (λ k e g. (let t = take-get placed (suc i) k e g in handed_placed p within (length placed) k (suc i) e.1 e.0 (h k t.1 e.0 e.1 t.0) (tree.right k e.0 e.1 t.0).valid)) in
        (subst (λ (qs : List Place). ArePlaced p qs) a s).0

-- ---- nodes

vectors_fit : (rows : ℕ) (vectors : List Multipliers) → KeepsVectors vectors → list_all (vector_within rows) vectors ≡ true → list_all (vector_has_text rows) vectors ≡ true
vectors_fit rows vectors h g = from_each (vector_has_text rows) vectors (λ k v e. vector_fits rows v (h k v e) (each_of (vector_within rows) vectors k v g e))

cert_fits_text : (p : Problem) → AreWithin p → (q : Place) (cert : Cert) (verdicts : List Verdict) → IsPlaced p q → KeepsVectors cert.vectors → cert_fits p cert ≡ true → is_some (raised q.box cert p.scenarios q.levels verdicts) ≡ true → cert_has_text (length p.scenarios) p.columns p.rows cert verdicts ≡ true
cert_fits_text p within q cert verdicts here keeps e g =
    let t = cert_parts p cert e in
    let r = is_some-is (raised q.box cert p.scenarios q.levels verdicts) g in
    let lifted : Raising p.rows p.scenarios q.levels verdicts r.0 = raising p.columns p.rows q.box cert p.scenarios q.levels verdicts r.0 (shapes_of p (all_within p within)) (le_test (length cert.vectors) 2 t.few_vectors) r.1 in
    let some : 0 < length verdicts = (lifted.live here.live.0 here.live.1 here.live.2).0 in
    all _ (list_all (verdict_has_text p.rows) verdicts)
    (all _ (nat_le (length verdicts) (length p.scenarios))
    (all _ (nat_lt 0 (length verdicts))
    (all _ (list_all (vector_has_text p.rows) cert.vectors)
    (all _ (nat_le (length cert.vectors) 2)
    (all (nat_le (length cert.steps) 128) (list_all (step_has_text p.columns p.rows) cert.steps) t.few_steps t.steps)
    t.few_vectors)
    (vectors_fit p.rows cert.vectors keeps t.vectors))
    (lt_true 0 (length verdicts) some))
    (le_true (length verdicts) (length p.scenarios) lifted.few))
    lifted.fit

some_stay : (p : Problem) (box : Box) (cert : Cert) (stay : List ℕ) (h : Box) → stayers_hull p box cert stay ≡ Some h → nat_lt 0 (length stay) ≡ true
some_stay p box cert [] h e = absurd (cc)
some_stay p box cert (k ∷ ks) h e = lt_true 0 (suc (length ks)) (omega arith)

node_fits : (p : Problem) → AreWithin p → (count n : ℕ) (q : Place) (node : Node) → IsPlaced p q → VectorsKeep node → is_valid p count n q node ≡ true → node_has_text (length p.scenarios) p.columns p.rows count node ≡ true
node_fits p within count n q Rest here keeps e = refl
node_fits p within count n q (Leaf cert verdicts) here keeps e =
    let t = both (cert_fits p cert) (is_some (raised q.box cert p.scenarios q.levels verdicts)) e in
    cert_fits_text p within q cert verdicts here keeps t.0 t.1
node_fits p within count n q (Split cert verdicts stay child column v) here keeps e =
    let limits = all_within p within in
    let t = split_parts p count n q cert verdicts stay child column v e in
    let h = hull_parts p q cert stay column v t.inside in
    let part : PartOf h.hull_of_them q.box = stayers_hull-part p limits q.box here.long cert stay h.hull_of_them h.is in
    let within_root : Narrower (interval_at h.hull_of_them column) (interval_at (root_box p.scenarios) column) = inside_at h.hull_of_them (root_box p.scenarios) column (Inside-trans h.hull_of_them q.box (root_box p.scenarios) part.inside here.inside) in
    let ends = at_within (10 ^ 6) (root_box p.scenarios) column (root_within (10 ^ 6) p.scenarios (λ k s g. (limits k s g).limits.bounds)) in
    let value_fits : unsigned_abs v ≤ 10 ^ 6 = omega (arith, ints, within_root.low, within_root.high, h.low, h.high, ends.0, ends.1) in
    let boxes = option_and_then_is hull_of_all (stayer_boxes p q.box cert stay) h.hull_of_them h.is in
    all _ (cert_has_text (length p.scenarios) p.columns p.rows cert verdicts)
    (all _ (stay_has_text (length p.scenarios) stay)
    (all _ (is_within (10 ^ 6) v)
    (all _ (nat_lt column p.columns)
    (all (nat_lt 0 child) (nat_lt (suc child) count) (lt_true 0 child (omega (arith, lt_test n child t.later))) t.last)
    t.column_below)
    (abs_within (10 ^ 6) v value_fits))
    (all _ (list_all (λ k. nat_lt k (length p.scenarios)) stay) (all (nat_lt 0 (length stay)) (is_rising stay) (some_stay p q.box cert stay h.hull_of_them h.is) t.rising) (stayers_below p q.box cert stay boxes.0 boxes.1)))
    (cert_fits_text p within q cert verdicts here keeps t.fits t.raised_is)

-- ---- answers

point_fits : (columns rows : ℕ) (s : Program) (x : List ℤ) (v : ℤ) → IsWithin columns rows s → HasValue s x v → point_has_text columns x && is_within (2 ^ 60) v ≡ true
point_fits columns rows s x v w h =
    let long : length s.bounds ≡ length x = length-InBox s.bounds x h.0.within in
    let value_fits : unsigned_abs v ≤ 2 ^ 60 = subst (λ (z : ℤ). unsigned_abs z ≤ 2 ^ 60) h.1 (limits-fit s w.limits x h.0.within).value in
    all (point_has_text columns x) (is_within (2 ^ 60) v)
    (all (nat_eq (length x) columns) (list_all (is_within (10 ^ 6)) x) (eq_true (length x) columns (omega (arith, long, w.shape.bounds))) (point_within (10 ^ 6) s.bounds x w.limits.bounds h.0.within))
    (abs_within (2 ^ 60) v value_fits)

answer_fits : (columns rows : ℕ) (s : Program) (a : Answer) → IsWithin columns rows s → ClaimHolds s a → BoundFits a → answer_has_text columns a ≡ true
answer_fits columns rows s Infeasible w h b = refl
answer_fits columns rows s (Optimal x v) w h b = point_fits columns rows s x v w h
answer_fits columns rows s (Limit None c) w h b = abs_within (2 ^ 60) c b
answer_fits columns rows s (Limit (Some (x, v)) c) w h b =
    all (point_has_text columns x && is_within (2 ^ 60) v) (is_within (2 ^ 60) c) (point_fits columns rows s x v w h.0) (abs_within (2 ^ 60) c b)

-- ---- the whole

length_map : {X Y : Type 0} (f : X → Y) (xs : List X) → length (map f xs) ≡ length xs
length_map f [] = refl
length_map f (x ∷ xs) = ap suc (length_map f xs)

node_of : (placed : List (Node × Place)) (k : ℕ) (node : Node) → slice_get (map (λ (e : Node × Place). e.0) placed) k ≡ Some node → (q : Place) × (slice_get placed k ≡ Some (node, q))
node_of [] k node e = absurd (cc)
node_of ((n, q) ∷ placed) zero node e = let same : n ≡ node = cc in (q, ap (λ (z : Node). Some (z, q)) same)
node_of ((n, q) ∷ placed) (suc k) node e = node_of placed k node e

pub accepted_has_text : (p : Problem) (answers : List Answer) (nodes : List Node) → AreWithin p → Accepted p answers nodes → ((k : ℕ) (a : Answer) → slice_get answers k ≡ Some a → BoundFits a) → KeepsAll nodes → length nodes ≤ 100001 → has_text (record { columns = p.columns; rows = p.rows; answers = answers; tree = nodes }) ≡ true
accepted_has_text p answers nodes within h bounds keeps few =
    let limits = all_within p within in
    let long : length nodes ≡ length h.placed = ap length (sym h.nodes_are) ∙ length_map (λ (e : Node × Place). e.0) h.placed in
    let answers_fit : list_all (answer_has_text p.columns) answers ≡ true = from_each (answer_has_text p.columns) answers (λ k a e. (let s = slice_get-some p.scenarios k (omega (arith, h.count, slice_get_within answers k a e)) in answer_fits p.columns p.rows s.0 a (limits k s.0 s.1) (h.claims k s.0 a s.1 e) (bounds k a e))) in
    let nodes_fit : list_all (node_has_text (length p.scenarios) p.columns p.rows (length h.placed)) nodes ≡ true = from_each (node_has_text (length p.scenarios) p.columns p.rows (length h.placed)) nodes (λ k node e. (let q = node_of h.placed k node (subst (λ (ns : List Node). slice_get ns k ≡ Some node) (sym h.nodes_are) e) in node_fits p within (length h.placed) k q.0 node (all_placed p within h.placed h.tree (suc k) k (omega arith) node q.0 q.1) (keeps k node e) (h.tree.right k node q.0 q.1).valid)) in
    let nodes_are_fit : list_all (node_has_text (length answers) p.columns p.rows (length nodes)) nodes ≡ true = ap (λ (n : ℕ). list_all (node_has_text n p.columns p.rows (length nodes)) nodes) h.count ∙ (ap (λ (n : ℕ). list_all (node_has_text (length p.scenarios) p.columns p.rows n) nodes) long ∙ nodes_fit) in
    all _ (list_all (node_has_text (length answers) p.columns p.rows (length nodes)) nodes)
    (all _ (list_all (answer_has_text p.columns) answers)
    (all _ (nat_le (length nodes) 100001)
    (all _ (nat_lt 0 (length nodes))
    (all _ (nat_le p.rows 1000)
    (all _ (nat_le p.columns 1000)
    (all (nat_lt 0 (length answers)) (nat_le (length answers) 64) (lt_true 0 (length answers) (omega (arith, h.count, within.some_scenario))) (le_true (length answers) 64 (omega (arith, h.count, within.few_scenarios))))
    (le_true p.columns 1000 within.few_columns))
    (le_true p.rows 1000 within.few_rows))
    (lt_true 0 (length nodes) (omega (arith, long, h.tree.some))))
    (le_true (length nodes) 100001 few))
    answers_fit)
    nodes_are_fit
