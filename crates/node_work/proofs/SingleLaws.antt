-- A replay lies in the scenario's bounds, and where it is single and no row misses it, its point is feasible.
use Rattle.std.specs.Prelude.{◌≡◌, ℕ, zero, suc, ◌<◌, ℤ, ◌*ℤ◌, ◌≤ℤ◌, List, [], ◌∷◌, length, slice_index_or, Bool, true, false, ◌||◌, ◌&&◌, Option, Some, None, IfSome, refl, ◌⊎◌}
use Rattle.std.specs.Int.{int_min, int_max}
use Rattle.std.proofs.Common.{arith, ap, sym, ◌∙◌, subst, inl, inr}
use Rattle.std.proofs.lemmas.Int.{ints, clamps}
use Rattle.std.proofs.lemmas.Bool.Decides.{Decides-int_eq}
use Rattle.int_model.specs.Integers.{int_at, int_eq}
use Rattle.int_model.specs.Boxes.{Box, Interval, InBox, interval_at, is_single, meet}
use Rattle.int_model.specs.Programs.{Program, Terms, Feasible, MeetsRows, IsBetween, row_sum}
use Rattle.int_model.specs.RowSums.{least_product, greatest_product, least_sum, greatest_sum, is_above, is_below, misses_ends, row_misses}
use Rattle.int_model.specs.declared.model.Ends.{Ends}
use Rattle.int_model.proofs.BoxLaws.{tells-points}
use Rattle.int_model.proofs.VolumeLaws.{points-not_empty}
use Rattle.tighten.specs.Replay.{replay, replayed}
use Rattle.tighten.specs.declared.step.Step.{Step}
use Rattle.scenario_changes.specs.Problems.{Problem, IsWithin, program_at}
use Rattle.certs.specs.Trees.{some_row_misses}
use Rattle.certs.specs.declared.cert.Cert.{Cert}
use Rattle.certs.proofs.BoxParts.{Inside, PartOf, replay-part}
use Rattle.node_work.specs.Probes.{lows_of}
use Rattle.node_work.specs.Refusals.{IsPart}

-- ---- within the bounds

interval_of : ℤ → ℤ → Interval
interval_of low high = record { low = low; high = high }

max_swap : (a b : ℤ) → int_max a b ≡ int_max b a
max_swap a b = omega (arith, ints, clamps)

min_swap : (a b : ℤ) → int_min a b ≡ int_min b a
min_swap a b = omega (arith, ints, clamps)

meet_swap : (a b : Box) → meet a b ≡ meet b a
unfolding interval_of
meet_swap [] [] = refl
meet_swap [] (k ∷ b) = refl
meet_swap (i ∷ a) [] = refl
meet_swap (i ∷ a) (k ∷ b) =
    ap (λ (box : Box). interval_of (int_max i.low k.low) (int_min i.high k.high) ∷ box) (meet_swap a b)
    ∙ ap (λ (z : ℤ). interval_of z (int_min i.high k.high) ∷ meet b a) (max_swap i.low k.low)
    ∙ ap (λ (z : ℤ). interval_of (int_max k.low i.low) z ∷ meet b a) (min_swap i.high k.high)

-- a replay is a part of the bounds
pub replay-bounds : (n : ℕ) (s : Program) (steps : List Step) (box t : Box) → length box ≡ n → length s.bounds ≡ n → replay s steps box ≡ Some t → PartOf t s.bounds
replay-bounds n s steps box t e f g =
    let other : Program = record s { bounds = box } in
    let swapped : replay (record s { bounds = box }) steps s.bounds ≡ Some t = ap (λ (b : Box). replayed s.rows s.ends steps b) (meet_swap s.bounds box) ∙ g in
    replay-part n other steps s.bounds t f e swapped

Inside-InBox : (a b : Box) (x : List ℤ) → Inside a b → InBox a x → InBox b x
Inside-InBox [] [] x h g = g
Inside-InBox [] (k ∷ b) x h g = absurd h
Inside-InBox (i ∷ a) [] x h g = absurd h
Inside-InBox (i ∷ a) (k ∷ b) [] h g = absurd g
Inside-InBox (i ∷ a) (k ∷ b) (v ∷ x) h g = (omega (arith, ints, h.0.low, g.0), omega (arith, ints, h.0.high, g.1), Inside-InBox a b x h.1 g.2)

-- ---- rows over a single box

or_none : (a b : Bool) → (a || b) ≡ false → (a ≡ false) × (b ≡ false)
or_none true b e = absurd (cc)
or_none false b e = (refl, e)

low_at : (b : Box) (j : ℕ) → int_at (lows_of b) j ≡ (interval_at b j).low
low_at [] j = refl
low_at (i ∷ b) zero = refl
low_at (i ∷ b) (suc j) = low_at b j

single_tail : (i : Interval) (b : Box) → is_single (i ∷ b) ≡ true → (i.low ≡ i.high) × (is_single b ≡ true)
single_tail i b e = by (int_eq i.low i.high) (is_single b) refl refl e
  where
    by : (s u : Bool) → int_eq i.low i.high ≡ s → is_single b ≡ u → (s && u) ≡ true → (i.low ≡ i.high) × (is_single b ≡ true)
    by true true p r f = ((Decides-int_eq i.low i.high).0 p, r)
    by true false p r f = absurd (cc)
    by false u p r f = absurd (cc)

single_at : (b : Box) → is_single b ≡ true → (j : ℕ) → (interval_at b j).low ≡ (interval_at b j).high
single_at [] e j = refl
single_at (i ∷ b) e zero = (single_tail i b e).0
single_at (i ∷ b) e (suc j) = single_at b (single_tail i b e).1 j

least_single : (a : ℤ) (i : Interval) (v : ℤ) → i.low ≡ i.high → v ≡ i.low → least_product a i ≡ a *ℤ v
least_single a i v same e =
    let low : a *ℤ i.low ≡ a *ℤ v = ap (λ z. a *ℤ z) (sym e) in
    let high : a *ℤ i.high ≡ a *ℤ v = ap (λ z. a *ℤ z) (sym (e ∙ same)) in
    omega (arith, ints, clamps, low, high)

greatest_single : (a : ℤ) (i : Interval) (v : ℤ) → i.low ≡ i.high → v ≡ i.low → greatest_product a i ≡ a *ℤ v
greatest_single a i v same e =
    let low : a *ℤ i.low ≡ a *ℤ v = ap (λ z. a *ℤ z) (sym e) in
    let high : a *ℤ i.high ≡ a *ℤ v = ap (λ z. a *ℤ z) (sym (e ∙ same)) in
    omega (arith, ints, clamps, low, high)

least_at_single : (terms : Terms) (b : Box) → is_single b ≡ true → least_sum terms b ≡ row_sum terms (lows_of b)
least_at_single [] b e = refl
least_at_single ((j, a) ∷ terms) b e =
    omega (arith, ints, least_single a (interval_at b j) (int_at (lows_of b) j) (single_at b e j) (low_at b j), least_at_single terms b e)

greatest_at_single : (terms : Terms) (b : Box) → is_single b ≡ true → greatest_sum terms b ≡ row_sum terms (lows_of b)
greatest_at_single [] b e = refl
greatest_at_single ((j, a) ∷ terms) b e =
    omega (arith, ints, greatest_single a (interval_at b j) (int_at (lows_of b) j) (single_at b e j) (low_at b j), greatest_at_single terms b e)

above_met : (u : Option ℤ) (s : ℤ) → is_above u s ≡ false → IfSome u (λ z. s ≤ℤ z)
above_met None s e = tt
above_met (Some u) s e = omega (arith, ints)

below_met : (w : Option ℤ) (s : ℤ) → is_below w s ≡ false → IfSome w (λ z. z ≤ℤ s)
below_met None s e = tt
below_met (Some w) s e = omega (arith, ints)

met : (terms : Terms) (e : Ends) (b : Box) → is_single b ≡ true → misses_ends terms e b ≡ false → IsBetween e (row_sum terms (lows_of b))
met terms e b one m =
    let parts = or_none (is_above e.upper (least_sum terms b)) (is_below e.lower (greatest_sum terms b)) m in
    (below_met e.lower _ (subst (λ (s : ℤ). is_below e.lower s ≡ false) (greatest_at_single terms b one) parts.1), above_met e.upper _ (subst (λ (s : ℤ). is_above e.upper s ≡ false) (least_at_single terms b one) parts.0))

meets_all : (rows : List Terms) (ends : List Ends) (b : Box) → length ends ≡ length rows → is_single b ≡ true → ((i : ℕ) → i < length rows → misses_ends (slice_index_or rows i []) (slice_index_or ends i (record { lower = None; upper = None })) b ≡ false) → MeetsRows rows ends (lows_of b)
meets_all [] [] b same one h = tt
meets_all [] (e ∷ ends) b same one h = absurd (omega arith)
meets_all (row ∷ rows) [] b same one h = absurd (omega arith)
meets_all (row ∷ rows) (e ∷ ends) b same one h = (met row e b one (h 0 (omega arith)), meets_all rows ends b (omega arith) one (λ i l. h (suc i) (omega arith)))

-- no row misses
none_misses : (s : Program) (n : ℕ) (b : Box) → some_row_misses s n b ≡ false → (i : ℕ) → i < n → row_misses s i b ≡ false
none_misses s zero b e i l = absurd (omega arith)
none_misses s (suc n) b e i l =
    let t = or_none (row_misses s n b) (some_row_misses s n b) e in
    by_place t.0 (less i n l) (λ m. none_misses s n b t.1 i m)
  where
    less : (i n : ℕ) → i < suc n → (i ≡ n) ⊎ (i < n)
    less zero zero h = inl refl
    less zero (suc n) h = inr (omega arith)
    less (suc i) zero h = absurd (omega arith)
    less (suc i) (suc n) h = elim (less i n (omega arith)) [ inl e ↦ inl (ap suc e) | inr m ↦ inr (omega (arith, m)) ]

    by_place : row_misses s n b ≡ false → (i ≡ n) ⊎ (i < n) → (i < n → row_misses s i b ≡ false) → row_misses s i b ≡ false
    by_place t (inl q) more = subst (λ (m : ℕ). row_misses s m b ≡ false) (sym q) t
    by_place t (inr m) more = more m

pub single-feasible : (columns rows : ℕ) (s : Program) (steps : List Step) (box part : Box) → IsWithin columns rows s → length box ≡ columns → replay s steps box ≡ Some part → is_single part ≡ true → some_row_misses s rows part ≡ false → Feasible s (lows_of part)
single-feasible columns rows s steps box part w n r one none =
    let inside : PartOf part s.bounds = replay-bounds columns s steps box part n w.shape.bounds r in
    record {
      within = Inside-InBox part s.bounds (lows_of part) inside.inside ((tells-points part).some (points-not_empty part inside.points));
      rows = meets_all s.rows s.ends part (w.shape.ends ∙ sym w.shape.rows) one (λ i l. none_misses s rows part none i (omega (arith, l, w.shape.rows)));
    }

-- the replay of a scenario, where no row misses it
pub replay-is_part : (p : Problem) (box : Box) (cert : Cert) (k : ℕ) (part : Box) → IsWithin p.columns p.rows (program_at p k) → length box ≡ p.columns → replay (program_at p k) cert.steps box ≡ Some part → some_row_misses (program_at p k) p.rows part ≡ false → length part ≡ p.columns → IsPart p k part
replay-is_part p box cert k part w n r none l =
    let here : PartOf part (program_at p k).bounds = replay-bounds p.columns (program_at p k) cert.steps box part n w.shape.bounds r in
    record {
      columns = l;
      occupied = points-not_empty part here.points;
      within = λ x i. Inside-InBox part (program_at p k).bounds x here.inside i;
      feasible = λ one. single-feasible p.columns p.rows (program_at p k) cert.steps box part w n r one none;
    }
