-- Boxes that are closed or cut.
use Rattle.std.proofs.Common.{◌≡◌, ◌≢◌, ◌∙◌, ap, sym, subst, ℕ, ◌+◌, ◌-◌, ◌*◌, ◌^◌, ◌<◌, ◌≤◌, ◌⊎◌, ℤ, pos, ◌+ℤ◌, ◌*ℤ◌, ◌≤ℤ◌, ◌<ℤ◌, unsigned_abs, List, [], ◌∷◌, ◌++◌, length, map, get_or, drop, take, Bool, true, false, true≢false, ◌||◌, ◌&&◌, Option, Some, None, IfSome, inl, inr, refl, arith, add-one, drop-cons, slice_get, zero, suc, append_assoc, int_lt, int_le}
use Rattle.std.specs.List.{All, sum_by}
use Rattle.std.specs.Int.{int_min, int_max}
use Rattle.std.proofs.lemmas.Int.{ints, clamps, by_lt_z}
use Rattle.std.proofs.lemmas.List.{append-nil, get_or-map, length-map}
use Rattle.std.proofs.Math.ListN.{length-set, length-append, get_or-append}
use Rattle.std.proofs.lemmas.List.{get_or_append_left}
use Rattle.std.proofs.Math.Seq.{get_or-append_seam}
use Rattle.std.proofs.lemmas.Bool.{cases_lt}
use Rattle.std.proofs.lemmas.List.Elements.{All-push, All-nil, All-append, All-cons}
use Rattle.std.proofs.lemmas.List.Sums.{sum_by_push, sum_by-append}
use Rattle.std.proofs.lemmas.Bool.Decides.{Decides-int_eq}
use Rattle.int_model.specs.Integers.{int_at, int_eq}
use Rattle.int_model.specs.Boxes.{Interval, Box, box_of, InBox, is_empty, is_single, volume, interval_at, below_cut, above_cut}
use Rattle.int_model.specs.Programs.{Program, Terms, Feasible, MeetsRows, IsBetween, row_sum, value}
use Rattle.int_model.specs.RowSums.{least_product, greatest_product, least_sum, greatest_sum, is_above, is_below, misses_ends, row_misses}
use Rattle.int_model.specs.Models.{IntegerModel}
use Rattle.int_model.specs.declared.model.Ends.{Ends}
use Rattle.int_model.specs.declared.model.Row.{Row}
use Rattle.std.proofs.lemmas.Option.{get_or_from_slice_get, slice_get_within}
use Rattle.int_model.proofs.BoxLaws.{splits, tells-points, length-InBox}
use Rattle.int_model.proofs.VolumeLaws.{volume-pos, not_empty-points}
use Rattle.int_model.proofs.RowSumLaws.{row_misses-none}
use Rattle.plain_search.specs.declared.search.Best.{Best}
use Rattle.scen_report.specs.Reports.{IsValue}
use Rattle.scenario_changes.specs.Changes.{no_change}
use Rattle.scenario_changes.specs.Answers.{HasValue, RightAnswer}
use Rattle.scenario_changes.specs.Problems.{Problem, Scenarios, problem, program_at, scenario_of, solved}
use Rattle.scenario_changes.specs.declared.answer.Answer.{Answer}
use Rattle.scenario_changes.specs.declared.answer.Answer.TheVariants.{Infeasible, Optimal}
use Rattle.plain_search.specs.Searches.{program_over, answer_at, HasNone, MissesNone, HasHalves, IsKept, IsAtMost, KeepsPoint, Keeps, InSome, IsPart, weight, total_weight, Covers, Visits}

-- ---- boxes and their sides

abbrev pub lows_of : Box → List ℤ
lows_of b = map (λ (i : Interval). i.low) b

abbrev pub highs_of : Box → List ℤ
highs_of b = map (λ (i : Interval). i.high) b

pub sides_back : (b : Box) → box_of (lows_of b) (highs_of b) ≡ b
sides_back [] = refl
sides_back (i ∷ b) = ap (λ (c : Box). i ∷ c) (sides_back b)

pub sides_same : (b : Box) (lows highs : List ℤ) → lows ≡ lows_of b → highs ≡ highs_of b → box_of lows highs ≡ b
sides_same b lows highs e f = rw (e, f) (sides_back b)

pub low_at : (b : Box) (j : ℕ) → get_or (lows_of b) j (pos 0) ≡ (interval_at b j).low
low_at [] j = refl
low_at (i ∷ b) zero = refl
low_at (i ∷ b) (suc j) = low_at b j

pub high_at : (b : Box) (j : ℕ) → get_or (highs_of b) j (pos 0) ≡ (interval_at b j).high
high_at [] j = refl
high_at (i ∷ b) zero = refl
high_at (i ∷ b) (suc j) = high_at b j

equal_ends : (i : Interval) → i.low ≡ i.high → int_eq i.low i.high ≡ true
equal_ends i same = grind (arith, ints)

ends_equal : (i : Interval) → int_eq i.low i.high ≡ true → i.low ≡ i.high
ends_equal i e = (Decides-int_eq i.low i.high).0 e

-- where no high is above its low, a box that isn't empty is single
first_narrow : (i : Interval) (b : Box) → i.high ≤ℤ i.low → is_empty (i ∷ b) ≡ false → (is_empty b ≡ false → is_single b ≡ true) → is_single (i ∷ b) ≡ true
first_narrow i b le e rest = by (int_lt i.high i.low) (is_empty b) refl refl e
  where
    by : (t u : Bool) → int_lt i.high i.low ≡ t → is_empty b ≡ u → (t || u) ≡ false → is_single (i ∷ b) ≡ true
    by true u p q f = absurd (cc)
    by false true p q f = absurd (cc)
    by false false p q f =
        let same : i.low ≡ i.high = omega (arith, ints, p, le) in
        rw (equal_ends i same, rest q) refl

pub narrow_single : (b : Box) → ((k : ℕ) → k < length b → get_or (highs_of b) k (pos 0) ≤ℤ get_or (lows_of b) k (pos 0)) → is_empty b ≡ false → is_single b ≡ true
narrow_single [] h e = refl
narrow_single (i ∷ b) h e = first_narrow i b (h 0 (omega arith)) e (λ q. narrow_single b (λ k l. h (suc k) (omega arith)) q)

-- the same by the sides of the box
pub narrow_by_sides : (b : Box) (lows highs : List ℤ) → lows ≡ lows_of b → highs ≡ highs_of b → ((k : ℕ) → k < length lows → get_or highs k (pos 0) ≤ℤ get_or lows k (pos 0)) → is_empty b ≡ false → is_single b ≡ true
narrow_by_sides b lows highs e f h occupied =
    narrow_single b (λ k l. subst (λ (hs : List ℤ). get_or hs k (pos 0) ≤ℤ get_or (lows_of b) k (pos 0)) f (subst (λ (ls : List ℤ). get_or highs k (pos 0) ≤ℤ get_or ls k (pos 0)) e (h k (omega (arith, ap length e, length-map b (λ (i : Interval). i.low)))))) occupied

-- ---- rows that miss

or_none : (a b : Bool) → (a || b) ≡ false → (a ≡ false) × (b ≡ false)
or_none true b e = absurd (cc)
or_none false b e = (refl, e)

row_terms : (rows : List Row) (i : ℕ) (r : Row) → slice_get rows i ≡ Some r → get_or (map (λ (q : Row). q.terms) rows) i [] ≡ r.terms
row_terms rows i r at = get_or-map (λ (q : Row). q.terms) rows i r [] (slice_get_within rows i r at) ∙ ap (λ (q : Row). q.terms) (get_or_from_slice_get rows i r r at)

-- whether row i misses the box of the program, by its terms
pub row_misses_by : (p : Program) (rows : List Row) (i : ℕ) (r : Row) (b : Bool) → p.rows ≡ map (λ (q : Row). q.terms) rows → slice_get rows i ≡ Some r → b ≡ misses_ends r.terms (get_or p.ends i (record { lower = None; upper = None })) p.bounds → row_misses p i p.bounds ≡ b
row_misses_by p rows i r b e at is =
    let terms : get_or p.rows i [] ≡ r.terms = ap (λ (l : List Terms). get_or l i []) e ∙ row_terms rows i r at in
    ap (λ (t : Terms). misses_ends t (get_or p.ends i (record { lower = None; upper = None })) p.bounds) terms ∙ sym is

-- A row that misses the box shows that no point of it is feasible.
pub missed_none : (p : Program) (i : ℕ) → row_misses p i p.bounds ≡ true → HasNone p
missed_none p i m x f = true≢false (sym m ∙ row_misses-none p i p.bounds x f f.within)

-- ---- the point of a single box

single_tail : (i : Interval) (b : Box) → is_single (i ∷ b) ≡ true → (i.low ≡ i.high) × (is_single b ≡ true)
single_tail i b e = by (int_eq i.low i.high) (is_single b) refl refl e
  where
    by : (s u : Bool) → int_eq i.low i.high ≡ s → is_single b ≡ u → (s && u) ≡ true → (i.low ≡ i.high) × (is_single b ≡ true)
    by true true p r f = (ends_equal i p, r)
    by true false p r f = absurd (cc)
    by false u p r f = absurd (cc)

single_at : (b : Box) → is_single b ≡ true → (j : ℕ) → (interval_at b j).low ≡ (interval_at b j).high
single_at [] e j = refl
single_at (i ∷ b) e zero = (single_tail i b e).0
single_at (i ∷ b) e (suc j) = single_at b (single_tail i b e).1 j

least_single : (a : ℤ) (i : Interval) (v : ℤ) → i.low ≡ i.high → v ≡ i.low → least_product a i ≡ a *ℤ v
least_single a i v same e =
    let low : a *ℤ i.low ≡ a *ℤ v = ap (λ z. a *ℤ z) (sym e) in
    let high : a *ℤ i.high ≡ a *ℤ v = ap (λ z. a *ℤ z) (sym (e ∙ same)) in
    omega (arith, ints, clamps, low, high)

greatest_single : (a : ℤ) (i : Interval) (v : ℤ) → i.low ≡ i.high → v ≡ i.low → greatest_product a i ≡ a *ℤ v
greatest_single a i v same e =
    let low : a *ℤ i.low ≡ a *ℤ v = ap (λ z. a *ℤ z) (sym e) in
    let high : a *ℤ i.high ≡ a *ℤ v = ap (λ z. a *ℤ z) (sym (e ∙ same)) in
    omega (arith, ints, clamps, low, high)

least_at_single : (terms : Terms) (b : Box) → is_single b ≡ true → least_sum terms b ≡ row_sum terms (lows_of b)
least_at_single [] b e = refl
least_at_single ((j, a) ∷ terms) b e =
    omega (arith, ints, least_single a (interval_at b j) (int_at (lows_of b) j) (single_at b e j) (low_at b j), least_at_single terms b e)

greatest_at_single : (terms : Terms) (b : Box) → is_single b ≡ true → greatest_sum terms b ≡ row_sum terms (lows_of b)
greatest_at_single [] b e = refl
greatest_at_single ((j, a) ∷ terms) b e =
    omega (arith, ints, greatest_single a (interval_at b j) (int_at (lows_of b) j) (single_at b e j) (low_at b j), greatest_at_single terms b e)

above_met : (u : Option ℤ) (s : ℤ) → is_above u s ≡ false → IfSome u (λ z. s ≤ℤ z)
above_met None s e = tt
above_met (Some u) s e = omega (arith, ints)

below_met : (w : Option ℤ) (s : ℤ) → is_below w s ≡ false → IfSome w (λ z. z ≤ℤ s)
below_met None s e = tt
below_met (Some w) s e = omega (arith, ints)

met : (terms : Terms) (e : Ends) (b : Box) → is_single b ≡ true → misses_ends terms e b ≡ false → IsBetween e (row_sum terms (lows_of b))
met terms e b one m =
    let parts = or_none (is_above e.upper (least_sum terms b)) (is_below e.lower (greatest_sum terms b)) m in
    (below_met e.lower _ (subst (λ (s : ℤ). is_below e.lower s ≡ false) (greatest_at_single terms b one) parts.1), above_met e.upper _ (subst (λ (s : ℤ). is_above e.upper s ≡ false) (least_at_single terms b one) parts.0))

meets_all : (rows : List Terms) (ends : List Ends) (b : Box) → length ends ≡ length rows → is_single b ≡ true → ((i : ℕ) → i < length rows → misses_ends (get_or rows i []) (get_or ends i (record { lower = None; upper = None })) b ≡ false) → MeetsRows rows ends (lows_of b)
meets_all [] [] b same one h = tt
meets_all [] (e ∷ ends) b same one h = absurd (omega arith)
meets_all (row ∷ rows) [] b same one h = absurd (omega arith)
meets_all (row ∷ rows) (e ∷ ends) b same one h = (met row e b one (h 0 (omega arith)), meets_all rows ends b (omega arith) one (λ i l. h (suc i) (omega arith)))

-- the one point of a single box that no row misses is feasible
pub single_feasible : (p : Program) → length p.ends ≡ length p.rows → is_empty p.bounds ≡ false → is_single p.bounds ≡ true → MissesNone p → Feasible p (lows_of p.bounds)
single_feasible p same occupied one none = record {
  within = (tells-points p.bounds).some occupied;
  rows = meets_all p.rows p.ends p.bounds same one none;
}

pub single_point : (b : Box) (x : List ℤ) → is_single b ≡ true → InBox b x → x ≡ lows_of b
single_point b x one i = ((tells-points b).one one x).0 i

-- a search keeps points of so many columns, with values within the limit
pub kept_fits : (p : Program) (best : Option Best) (b : Best) → IsKept p best → best ≡ Some b → (length b.point ≡ length p.bounds) × IsValue b.value
kept_fits p best b kept is =
    let k = subst (λ o. IsKept p o) is kept in (sym (length-InBox p.bounds b.point k.0.0.within), k.1)

-- ---- lists of boxes

pub InSome-front : (bs cs : List Box) (x : List ℤ) → InSome bs x → InSome (bs ++ cs) x
InSome-front [] cs x i = absurd i
InSome-front (b ∷ bs) cs x (inl i) = inl i
InSome-front (b ∷ bs) cs x (inr i) = inr (InSome-front bs cs x i)

pub InSome-back : (bs cs : List Box) (x : List ℤ) → InSome cs x → InSome (bs ++ cs) x
InSome-back [] cs x i = i
InSome-back (b ∷ bs) cs x i = inr (InSome-back bs cs x i)

pub InSome-split : (bs : List Box) (b : Box) (x : List ℤ) → InSome (bs ++ b ∷ []) x → InSome bs x ⊎ InBox b x
InSome-split [] b x (inl i) = inr i
InSome-split [] b x (inr i) = absurd i
InSome-split (c ∷ bs) b x (inl i) = inl (inl i)
InSome-split (c ∷ bs) b x (inr i) = elim (InSome-split bs b x i) [ inl j ↦ inl (inr j) | inr j ↦ inr j ]

heavy : (b : Box) → is_empty b ≡ false → 1 ≤ volume b
heavy b e = volume-pos b (not_empty-points b e)

-- ---- one visit

pub visit_missed : (p : Program) (bs : List Box) (best : Option Best) → is_empty p.bounds ≡ false → HasNone p → Visits p bs bs best best
visit_missed p bs best e none = record {
  added = [];
  list = sym (append-nil bs);
  parts = All-nil (IsPart p.bounds);
  here = λ x f. absurd (none x f);
  better = λ v h. h;
  kept = inl refl;
  lighter = omega (arith, heavy p.bounds e);
}

point_kept : (p : Program) (x : List ℤ) (after : Option Best) → Feasible p x → KeepsPoint x (value p x) after → IsKept p after
point_kept p x None f k = absurd k
point_kept p x (Some b) f k = ((subst (λ y. Feasible p y) (sym k.0) f, ap (λ y. value p y) k.0 ∙ k.1), k.2)

pub visit_single : (p : Program) (bs : List Box) (before after : Option Best) → is_empty p.bounds ≡ false → is_single p.bounds ≡ true → Feasible p (lows_of p.bounds) → Keeps (lows_of p.bounds) (value p (lows_of p.bounds)) before after → Visits p bs bs before after
visit_single p bs before after e one f keeps = record {
  added = [];
  list = sym (append-nil bs);
  parts = All-nil (IsPart p.bounds);
  here = λ x g. inr (subst (λ y. IsAtMost after (value p y)) (sym (single_point p.bounds x one g.within)) keeps.at_most);
  better = keeps.better;
  kept = elim keeps.kept [ inl same ↦ inl same | inr k ↦ inr (point_kept p (lows_of p.bounds) after f k) ];
  lighter = omega (arith, heavy p.bounds e);
}

pub visit_halves : (p : Program) (bs new : List Box) (best : Option Best) → is_empty p.bounds ≡ false → HasHalves p.bounds bs new → Visits p bs new best best
visit_halves p bs new best e h =
    let below = below_cut p.bounds h.column h.value in
    let above = above_cut p.bounds h.column h.value in
    let s = splits p.bounds h.column h.value h.in_range in
    record {
      added = above ∷ below ∷ [];
      list = h.list ∙ append_assoc bs (above ∷ []) (below ∷ []);
      parts = All-cons (IsPart p.bounds) above (below ∷ []) (record { columns = length-set p.bounds h.column _; occupied = h.above_occupied; within = λ x i. ((s.high_part x).0 i).0 }) (All-cons (IsPart p.bounds) below [] (record { columns = length-set p.bounds h.column _; occupied = h.below_occupied; within = λ x i. ((s.low_part x).0 i).0 }) (All-nil (IsPart p.bounds)));
      here = λ x f. elim (s.covers x f.within) [ inl i ↦ inl (inr (inl i)) | inr i ↦ inl (inl i) ];
      better = λ v k. k;
      kept = inl refl;
      lighter = omega (arith, heavy below h.below_occupied, heavy above h.above_occupied, h.volumes);
    }

-- ---- the whole search

all_front : (P : Box → Type 0) (bs : List Box) (b : Box) → All P (bs ++ b ∷ []) → All P bs
all_front P bs b all k d h = subst P (get_or-append bs (b ∷ []) d k h) (all k d (omega (arith, length-append bs (b ∷ []))))

pub all_last : (P : Box → Type 0) (bs : List Box) (b : Box) → All P (bs ++ b ∷ []) → P b
all_last P [] b all = all 0 b (omega arith)
all_last P (c ∷ bs) b all = all_last P bs b (λ k d h. all (suc k) d (omega arith))

over_part : (p : Program) (b : Box) (best : Option Best) → IsPart p.bounds b → IsKept (record p { bounds = b }) best → IsKept p best
over_part p b None part k = tt
over_part p b (Some best) part k = ((record { within = part.within best.point k.0.0.within; rows = k.0.0.rows }, k.0.1), k.1)

part_parts : (b c : Box) (cs : List Box) → IsPart b c → All (IsPart c) cs → All (IsPart b) cs
part_parts b c cs part all k d h =
    let q = all k d h in
    record { columns = q.columns ∙ part.columns; occupied = q.occupied; within = λ x i. part.within x (q.within x i) }

pub covers_more : (p : Program) (b : Box) (bs new : List Box) (before after : Option Best) → Covers p (bs ++ b ∷ []) before → Visits (record p { bounds = b }) bs new before after → Covers p new after
covers_more p b bs new before after c v =
    let part = all_last (IsPart p.bounds) bs b c.parts in
    record {
      parts = subst (λ l. All (IsPart p.bounds) l) (sym v.list) (All-append (IsPart p.bounds) bs v.added (all_front (IsPart p.bounds) bs b c.parts) (part_parts p.bounds b v.added part v.parts));
      kept = elim v.kept [ inl same ↦ subst (λ k. IsKept p k) (sym same) c.kept | inr k ↦ over_part p b after part k ];
      covered = λ x f. elim (c.covered x f) [
        | inl i ↦ elim (InSome-split bs b x i) [
          | inl j ↦ inl (subst (λ l. InSome l x) (sym v.list) (InSome-front bs v.added x j))
          | inr j ↦ elim (v.here x (record { within = j; rows = f.rows })) [
            | inl k ↦ inl (subst (λ l. InSome l x) (sym v.list) (InSome-back bs v.added x k))
            | inr a ↦ inr a
          ]
        ]
        | inr a ↦ inr (v.better (value p x) a)
      ];
    }

pub lighter_more : (p : Program) (b : Box) (bs new : List Box) (before after : Option Best) → Visits (record p { bounds = b }) bs new before after → total_weight new < total_weight (bs ++ b ∷ [])
lighter_more p b bs new before after v =
    let added : total_weight new ≡ total_weight bs + total_weight v.added = ap total_weight v.list ∙ sum_by-append weight bs v.added in
    let whole : total_weight (bs ++ b ∷ []) ≡ total_weight bs + weight b = sum_by_push weight bs b in
    omega (arith, added, whole, v.lighter)

pub covers_empty : (p : Program) → is_empty p.bounds ≡ true → Covers p [] None
covers_empty p e = record {
  parts = All-nil (IsPart p.bounds);
  kept = tt;
  covered = λ x f. absurd ((tells-points p.bounds).none e x f.within);
}

pub covers_root : (p : Program) → is_empty p.bounds ≡ false → Covers p (p.bounds ∷ []) None
covers_root p e = record {
  parts = All-cons (IsPart p.bounds) p.bounds [] (record { columns = refl; occupied = e; within = λ x i. i }) (All-nil (IsPart p.bounds));
  kept = tt;
  covered = λ x f. inl (inl f.within);
}

-- ---- scenarios

pub scenario_rows : (p : Scenarios) (s : ℕ) → s < length (problem p).scenarios → (program_at (problem p) s).rows ≡ map (λ (i : Row). i.terms) p.model.rows
scenario_rows p s h =
    let changes = solved p.model p.changes in
    ap (λ (q : Program). q.rows) (get_or-map (scenario_of p.model) changes s (no_change 0 0) (record { costs = []; constant = pos 0; bounds = []; rows = []; ends = [] }) (omega (arith, h, length-map changes (scenario_of p.model))))

pub scenario_shape : (p : Scenarios) (s : ℕ) (ends : List Ends) → s < length (problem p).scenarios → ends ≡ (program_at (problem p) s).ends → length ends ≡ length p.model.rows → length (program_at (problem p) s).ends ≡ length (program_at (problem p) s).rows
scenario_shape p s ends h e count = sym (ap length e) ∙ count ∙ sym (ap length (scenario_rows p s h) ∙ length-map p.model.rows (λ (i : Row). i.terms))

-- whether row i misses a box, by what the problem tells of the row
pub row_verdict : (p : Scenarios) (s : ℕ) (box : Box) (m : IntegerModel) (ends : List Ends) (i : ℕ) (r : Row) (terms : Terms) (b : Bool) → s < length (problem p).scenarios → m ≡ p.model → ends ≡ (program_at (problem p) s).ends → slice_get m.rows i ≡ Some r → terms ≡ r.terms → b ≡ misses_ends terms (get_or ends i (record { lower = None; upper = None })) box → row_misses (program_over p s box) i box ≡ b
row_verdict p s box m ends i r terms b h same e at own is =
    let at_model : slice_get p.model.rows i ≡ Some r = subst (λ (n : IntegerModel). slice_get n.rows i ≡ Some r) same at in
    let by : b ≡ misses_ends r.terms (get_or (program_at (problem p) s).ends i (record { lower = None; upper = None })) box =
    is ∙ ap (λ (t : Terms). misses_ends t (get_or ends i (record { lower = None; upper = None })) box) own ∙ ap (λ (l : List Ends). misses_ends r.terms (get_or l i (record { lower = None; upper = None })) box) e in
    row_misses_by (program_over p s box) p.model.rows i r b (scenario_rows p s h) at_model by

-- the box of a scenario's bounds
pub scenario_root : (p : Scenarios) (s : ℕ) (lows highs : List ℤ) (root : Box) → lows ≡ lows_of (program_at (problem p) s).bounds → highs ≡ highs_of (program_at (problem p) s).bounds → root ≡ box_of lows highs → root ≡ (program_at (problem p) s).bounds
scenario_root p s lows highs root e f g = g ∙ sides_same (program_at (problem p) s).bounds lows highs e f

pub root_length : (b root : Box) (lows : List ℤ) (n : ℕ) → root ≡ b → lows ≡ lows_of b → length lows ≡ n → length root ≡ n
root_length b root lows n e f g = ap length e ∙ sym (ap length f ∙ length-map b (λ (i : Interval). i.low)) ∙ g

-- The best point that was kept until no box was open is the answer.
pub answered : (p : Scenarios) (s : ℕ) (root : Box) (best : Option Best) (b : Best) → root ≡ (program_at (problem p) s).bounds → Covers (program_over p s root) [] best → best ≡ Some b → RightAnswer (program_at (problem p) s) (Optimal b.point b.value)
answered p s root best b e c is =
    let q = program_over p s root in
    let kept : Covers q [] (Some b) = subst (λ (o : Option Best). Covers q [] o) is c in
    let right : RightAnswer q (Optimal b.point b.value) = (kept.kept.0, λ x f. elim (kept.covered x f) [ inl i ↦ absurd i | inr l ↦ l ]) in
    subst (λ (r : Box). RightAnswer (program_over p s r) (Optimal b.point b.value)) e right

pub answered_none : (p : Scenarios) (s : ℕ) (root : Box) (best : Option Best) → root ≡ (program_at (problem p) s).bounds → Covers (program_over p s root) [] best → best ≡ None → RightAnswer (program_at (problem p) s) Infeasible
answered_none p s root best e c is =
    let q = program_over p s root in
    let kept : Covers q [] None = subst (λ (o : Option Best). Covers q [] o) is c in
    let right : RightAnswer q Infeasible = λ x f. elim (kept.covered x f) [ inl i ↦ absurd i | inr l ↦ absurd l ] in
    subst (λ (r : Box). RightAnswer (program_over p s r) Infeasible) e right

-- ---- answers one by one

pub right_more : (p : Problem) (answers new : List Answer) (a : Answer) (n : ℕ) → new ≡ answers ++ a ∷ [] → length answers ≡ n → ((s : ℕ) → s < length answers → RightAnswer (program_at p s) (answer_at answers s)) → RightAnswer (program_at p n) a → (s : ℕ) → s < length new → RightAnswer (program_at p s) (answer_at new s)
right_more p answers new a n is count before now s h =
    let less : s < length answers + 1 = omega (arith, h, ap length is, length-append answers (a ∷ [])) in
    subst (λ (l : List Answer). RightAnswer (program_at p s) (answer_at l s)) (sym is) (elim (cases_lt s (length answers)) [
      | inl below ↦ subst (λ (x : Answer). RightAnswer (program_at p s) x) (sym (get_or_append_left answers (a ∷ []) Infeasible s below)) (before s below)
      | inr above ↦
          let last : length answers ≡ s = omega (arith, less, above) in
          let own : RightAnswer (program_at p (length answers)) a = subst (λ (k : ℕ). RightAnswer (program_at p k) a) (sym count) now in
          subst (λ (k : ℕ). RightAnswer (program_at p k) (answer_at (answers ++ a ∷ []) k)) last (subst (λ (x : Answer). RightAnswer (program_at p (length answers)) x) (sym (get_or-append_seam answers a [] Infeasible)) own)
    ])
