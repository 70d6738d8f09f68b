-- What the problem tells of a scenario's program.
use Rattle.std.specs.Prelude.{◌≡◌, ℕ, zero, suc, ◌<◌, ◌≤◌, ℤ, pos, ◌<ℤ◌, ◌≤ℤ◌, int_lt, nat_lt, nat_eq, ◌&&◌, Bool, true, false, cond, List, [], ◌∷◌, length, map, slice_get, slice_index_or, Some, None, refl}
use Rattle.std.proofs.Common.{arith, ap, sym, subst, ◌∙◌, get_or}
use Rattle.std.proofs.lemmas.Int.{ints}
use Rattle.std.proofs.lemmas.List.{get_or-map, length-map}
use Rattle.std.proofs.lemmas.Option.{get_or_from_slice_get, slice_get_within}
use Rattle.int_model.specs.Boxes.{Interval, Box, box_of}
use Rattle.int_model.specs.Programs.{Program, Terms}
use Rattle.int_model.specs.RowSums.{misses_ends, row_misses}
use Rattle.int_model.specs.Models.{IntegerModel}
use Rattle.int_model.specs.declared.model.Ends.{Ends}
use Rattle.int_model.specs.declared.model.Row.{Row}
use Rattle.scenario_changes.specs.Changes.{no_change}
use Rattle.scenario_changes.specs.Problems.{Scenarios, problem, program_at, scenario_of, solved}
use Rattle.dual_bounds.specs.Vectors.{Multipliers, RowsBelow, rows_of, vector_sum, vector_bound, program_sum, program_bound}
use Rattle.certs.specs.Verdicts.{AllRowsBelow, row_level, farkas_level, bound_level}
use Rattle.certs.specs.declared.level.Level.TheVariants.{Value, Inf}

pub scenario_rows : (p : Scenarios) (s : ℕ) → s < length (problem p).scenarios → (program_at (problem p) s).rows ≡ map (λ (i : Row). i.terms) p.model.rows
scenario_rows p s h =
    let changes = solved p.model p.changes in
    ap (λ (q : Program). q.rows) (get_or-map (scenario_of p.model) changes s (no_change 0 0) (record { costs = []; constant = pos 0; bounds = []; rows = []; ends = [] }) (omega (arith, h, length-map changes (scenario_of p.model))))

-- ---- rows that miss

sides_back : (b : Box) → box_of (map (λ (i : Interval). i.low) b) (map (λ (i : Interval). i.high) b) ≡ b
sides_back [] = refl
sides_back (i ∷ b) = ap (λ (c : Box). i ∷ c) (sides_back b)

pub sides_same : (b : Box) (lows highs : List ℤ) → lows ≡ map (λ (i : Interval). i.low) b → highs ≡ map (λ (i : Interval). i.high) b → box_of lows highs ≡ b
sides_same b lows highs e f = rw (e, f) (sides_back b)

row_terms : (rows : List Row) (i : ℕ) (r : Row) → slice_get rows i ≡ Some r → get_or (map (λ (q : Row). q.terms) rows) i [] ≡ r.terms
row_terms rows i r at = get_or-map (λ (q : Row). q.terms) rows i r [] (slice_get_within rows i r at) ∙ ap (λ (q : Row). q.terms) (get_or_from_slice_get rows i r r at)

-- whether row i misses a box, by what the problem tells of the row
row_verdict : (p : Scenarios) (s : ℕ) (box : Box) (m : IntegerModel) (ends : List Ends) (i : ℕ) (r : Row) (terms : Terms) (b : Bool) → s < length (problem p).scenarios → m ≡ p.model → ends ≡ (program_at (problem p) s).ends → slice_get m.rows i ≡ Some r → terms ≡ r.terms → b ≡ misses_ends terms (get_or ends i (record { lower = None; upper = None })) box → row_misses (program_at (problem p) s) i box ≡ b
row_verdict p s box m ends i r terms b h same e at own is =
    let none : Ends = record { lower = None; upper = None } in
    let at_model : slice_get p.model.rows i ≡ Some r = subst (λ (n : IntegerModel). slice_get n.rows i ≡ Some r) same at in
    let own_terms : get_or (program_at (problem p) s).rows i [] ≡ r.terms = ap (λ (l : List Terms). get_or l i []) (scenario_rows p s h) ∙ row_terms p.model.rows i r at_model in
    ap (λ (t : Terms). misses_ends t (get_or (program_at (problem p) s).ends i none) box) own_terms
    ∙ ap (λ (l : List Ends). misses_ends r.terms (get_or l i none) box) (sym e)
    ∙ ap (λ (t : Terms). misses_ends t (get_or ends i none) box) (sym own) ∙ sym is

pub row_level-true : (p : Scenarios) (s : ℕ) (box : Box) (m : IntegerModel) (ends : List Ends) (i : ℕ) (r : Row) (terms : Terms) → s < length (problem p).scenarios → m ≡ p.model → ends ≡ (program_at (problem p) s).ends → slice_get m.rows i ≡ Some r → terms ≡ r.terms → true ≡ misses_ends terms (get_or ends i (record { lower = None; upper = None })) box → Some Inf ≡ row_level (program_at (problem p) s) i box
row_level-true p s box m ends i r terms h same e at own is = let v = row_verdict p s box m ends i r terms true h same e at own is in rw v refl

pub row_level-false : (p : Scenarios) (s : ℕ) (box : Box) (m : IntegerModel) (ends : List Ends) (i : ℕ) (r : Row) (terms : Terms) → s < length (problem p).scenarios → m ≡ p.model → ends ≡ (program_at (problem p) s).ends → slice_get m.rows i ≡ Some r → terms ≡ r.terms → false ≡ misses_ends terms (get_or ends i (record { lower = None; upper = None })) box → None ≡ row_level (program_at (problem p) s) i box
row_level-false p s box m ends i r terms h same e at own is = let v = row_verdict p s box m ends i r terms false h same e at own is in rw v refl

past_end : {A : Type 0} (xs : List A) (i : ℕ) (d : A) → length xs ≤ i → slice_index_or xs i d ≡ d
past_end [] i d h = refl
past_end (x ∷ xs) zero d h = absurd (omega arith)
past_end (x ∷ xs) (suc i) d h = past_end xs i d (omega arith)

-- past the end there is no row to miss
pub row_level-past : (p : Scenarios) (s : ℕ) (box : Box) (i : ℕ) (ends : List Ends) → ends ≡ (program_at (problem p) s).ends → length ends ≤ i → None ≡ row_level (program_at (problem p) s) i box
row_level-past p s box i ends e h =
    let none : Ends = record { lower = None; upper = None } in
    let own : get_or (program_at (problem p) s).ends i none ≡ none = ap (λ (l : List Ends). get_or l i none) (sym e) ∙ past_end ends i none h in
    let misses : row_misses (program_at (problem p) s) i box ≡ false = ap (λ (n : Ends). misses_ends (get_or (program_at (problem p) s).rows i []) n box) own in
    rw misses refl

-- ---- vectors

-- what the calls on a vector read of a scenario
pub record IsReadAt (p : Scenarios) (s : ℕ) (m : IntegerModel) (costs : List ℤ) (ends : List Ends) : Type 0 where
  pub scenario : s < length (problem p).scenarios
  pub model : m ≡ p.model
  pub costs_are : costs ≡ (program_at (problem p) s).costs
  pub ends_are : ends ≡ (program_at (problem p) s).ends

sum-read : (p : Scenarios) (s : ℕ) (m : IntegerModel) (costs : List ℤ) (ends : List Ends) (v : Multipliers) (box : Box) → IsReadAt p s m costs ends → vector_sum (rows_of m) ends costs v box ≡ program_sum (program_at (problem p) s) v box
sum-read p s m costs ends v box r =
    let rows : rows_of m ≡ (program_at (problem p) s).rows = ap (λ (n : IntegerModel). rows_of n) r.model ∙ sym (scenario_rows p s r.scenario) in
    ap (λ (t : List Terms). vector_sum t ends costs v box) rows
    ∙ ap (λ (es : List Ends). vector_sum (program_at (problem p) s).rows es costs v box) r.ends_are
    ∙ ap (λ (cs : List ℤ). vector_sum (program_at (problem p) s).rows (program_at (problem p) s).ends cs v box) r.costs_are

bound-read : (p : Scenarios) (s : ℕ) (m : IntegerModel) (costs : List ℤ) (ends : List Ends) (constant : ℤ) (v : Multipliers) (box : Box) → IsReadAt p s m costs ends → (program_at (problem p) s).constant ≡ constant → vector_bound (rows_of m) ends costs constant v box ≡ program_bound (program_at (problem p) s) v box
bound-read p s m costs ends constant v box r e =
    let rows : rows_of m ≡ (program_at (problem p) s).rows = ap (λ (n : IntegerModel). rows_of n) r.model ∙ sym (scenario_rows p s r.scenario) in
    ap (λ (t : List Terms). vector_bound t ends costs constant v box) rows
    ∙ ap (λ (es : List Ends). vector_bound (program_at (problem p) s).rows es costs constant v box) r.ends_are
    ∙ ap (λ (cs : List ℤ). vector_bound (program_at (problem p) s).rows (program_at (problem p) s).ends cs constant v box) r.costs_are
    ∙ ap (λ (z : ℤ). vector_bound (program_at (problem p) s).rows (program_at (problem p) s).ends (program_at (problem p) s).costs z v box) (sym e)

-- whether the scale is 0 and the sum positive
by_sum : (n : ℕ) (z : ℤ) (b : Bool) → n ≡ 0 → int_lt (pos 0) z ≡ b → cond (nat_eq n 0 && int_lt (pos 0) z) (Some Inf) None ≡ cond b (Some Inf) None
by_sum n z b e h = rw (e, h) refl

above : (z : ℤ) → pos 0 <ℤ z → int_lt (pos 0) z ≡ true
above z h = grind (arith, ints, h)

not_above : (z : ℤ) → z ≤ℤ pos 0 → int_lt (pos 0) z ≡ false
not_above z h = grind (arith, ints, h)

pub farkas-positive : (p : Scenarios) (s : ℕ) (m : IntegerModel) (costs : List ℤ) (ends : List Ends) (v : Multipliers) (box : Box) (sum : ℤ) → IsReadAt p s m costs ends → v.scale ≡ 0 → sum ≡ vector_sum (rows_of m) ends costs v box → pos 0 <ℤ sum → Some Inf ≡ farkas_level (program_at (problem p) s) box v
farkas-positive p s m costs ends v box sum r z e h =
    let is : sum ≡ program_sum (program_at (problem p) s) v box = e ∙ sum-read p s m costs ends v box r in
    sym (by_sum v.scale (program_sum (program_at (problem p) s) v box) true z (ap (int_lt (pos 0)) (sym is) ∙ above sum h))

pub farkas-other : (p : Scenarios) (s : ℕ) (m : IntegerModel) (costs : List ℤ) (ends : List Ends) (v : Multipliers) (box : Box) (sum : ℤ) → IsReadAt p s m costs ends → v.scale ≡ 0 → sum ≡ vector_sum (rows_of m) ends costs v box → sum ≤ℤ pos 0 → None ≡ farkas_level (program_at (problem p) s) box v
farkas-other p s m costs ends v box sum r z e h =
    let is : sum ≡ program_sum (program_at (problem p) s) v box = e ∙ sum-read p s m costs ends v box r in
    sym (by_sum v.scale (program_sum (program_at (problem p) s) v box) false z (ap (int_lt (pos 0)) (sym is) ∙ not_above sum h))

pub bound-level : (p : Scenarios) (s : ℕ) (m : IntegerModel) (costs : List ℤ) (ends : List Ends) (constant : ℤ) (v : Multipliers) (box : Box) (z : ℤ) → IsReadAt p s m costs ends → (program_at (problem p) s).constant ≡ constant → nat_lt 0 v.scale ≡ true → z ≡ vector_bound (rows_of m) ends costs constant v box → Some (Value z) ≡ bound_level (program_at (problem p) s) box v
bound-level p s m costs ends constant v box z r k h e =
    let is : program_bound (program_at (problem p) s) v box ≡ z = sym (e ∙ bound-read p s m costs ends constant v box r k) in
    rw (h, is) refl

-- the rows of a vector of the list
pub rows-at : (n : ℕ) (vectors : List Multipliers) (k : ℕ) (v : Multipliers) → AllRowsBelow n vectors → slice_get vectors k ≡ Some v → RowsBelow n v.entries
rows-at n [] k v h e = absurd (cc)
rows-at n (w ∷ vectors) zero v h e = subst (λ (u : Multipliers). RowsBelow n u.entries) (same e) h.0
  where
    same : {a b : Multipliers} → Some a ≡ Some b → a ≡ b
    same e = cc
rows-at n (w ∷ vectors) (suc k) v h e = rows-at n vectors k v h.1 e
