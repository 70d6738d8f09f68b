-- Each scenario's program keeps the limits, and is read from the numbers that are kept of it.
use Rattle.std.specs.Prelude.{◌≡◌, ℕ, suc, ◌*◌, ◌<◌, ◌≤◌, ◌^◌, ℤ, pos, ◌≤ℤ◌, unsigned_abs, List, [], ◌∷◌, length, map, max, slice_index_or, Option, Some, None, unwrap_or, IfSome, refl}
use Rattle.std.specs.List.{All}
use Rattle.std.proofs.Common.{arith, ap, sym, ◌∙◌, subst}
use Rattle.std.proofs.lemmas.Int.{ints}
use Rattle.std.proofs.lemmas.List.{length-map, get_or-map}
use Rattle.std.proofs.lemmas.List.Elements.{All-nil, All-cons, All-head, All-rest}
use Rattle.int_model.specs.Limits.{IsBound, IsEntry, IsSide}
use Rattle.int_model.specs.Boxes.{Box, Interval, InBox, box_of}
use Rattle.int_model.specs.Programs.{Program, Terms, CostsWithin, KeepsLimits, Feasible, MeetsRows}
use Rattle.int_model.specs.Ends.{ends_of, EndsWithin}
use Rattle.int_model.specs.Models.{IntegerModel, IsColumn, IsRow, minimized}
use Rattle.int_model.specs.Models as models
use Rattle.int_model.specs.declared.model.Column.{Column}
use Rattle.int_model.specs.declared.model.Row.{Row}
use Rattle.int_model.specs.declared.model.Rhs.{Rhs}
use Rattle.int_model.specs.declared.model.Rhs.TheVariants.{Value, Inf, MinusInf}
use Rattle.int_model.specs.declared.model.Ends.{Ends}
use Rattle.int_model.specs.declared.model.Direction.{Direction}
use Rattle.int_model.specs.declared.model.Direction.TheVariants.{Min, Max}
use Rattle.int_model.proofs.BoxLaws.{length-box_of}
use Rattle.int_model.proofs.EndsLaws.{ends-within}
use Rattle.int_model.proofs.LimitLaws.{values-fit}
use Rattle.int_model.proofs.ModelLaws.{rows-within, rows-below}
use Rattle.int_model.proofs.SideLemmas.{sides-within}
use Rattle.scenario_changes.specs.Changes.{Change, ChangeSet, IsChange, IsChangeSet, AreSides, Fits, changed, no_change, shape_of}
use Rattle.scenario_changes.specs.Problems.{Numbers, Scenarios, IsPosed, IsWithin, AreWithin, ends_of_rows, costs_of, lows_of, highs_of, scenario_of, numbers_of, solved, problem_of, problem, program_at}
use Rattle.scenario_changes.proofs.NumberLemmas.{CanStand, can-stand, base-good}

-- ---- changed values

pub length-changed : {A : Type 0} (bs : List A) (cs : List (Option A)) → length (changed bs cs) ≡ length bs
length-changed [] cs = refl
length-changed (b ∷ bs) [] = refl
length-changed (b ∷ bs) (c ∷ cs) = ap suc (length-changed bs cs)

either-way : {A : Type 0} (P : A → Type 0) (v : Option A) (b : A) → IfSome v P → P b → P (unwrap_or v b)
either-way P None b h k = k
either-way P (Some a) b h k = h

changed-all : {A : Type 0} (P : A → Type 0) (bs : List A) (cs : List (Option A)) → All P bs → All (λ (v : Option A). IfSome v P) cs → All P (changed bs cs)
changed-all P [] cs h k = All-nil P
changed-all P (b ∷ bs) [] h k = h
changed-all {A} P (b ∷ bs) (c ∷ cs) h k =
    All-cons P (unwrap_or c b) (changed bs cs) (either-way P c b (All-head (λ (v : Option A). IfSome v P) c cs k) (All-head P b bs h))
    (changed-all P bs cs (All-rest P b bs (b ∷ bs) refl h) (All-rest (λ (v : Option A). IfSome v P) c cs (c ∷ cs) refl k))

map-all : {A B : Type 0} (f : A → B) (P : A → Type 0) (Q : B → Type 0) → ((a : A) → P a → Q (f a)) → (xs : List A) → All P xs → All Q (map f xs)
map-all f P Q g [] h = All-nil Q
map-all f P Q g (x ∷ xs) h = All-cons Q (f x) (map f xs) (g x (All-head P x xs h)) (map-all f P Q g xs (All-rest P x xs (x ∷ xs) refl h))

pub minimized-small : (d : Direction) (most : ℕ) (z : ℤ) → unsigned_abs z ≤ most → unsigned_abs (minimized d z) ≤ most
minimized-small Min most z h = h
minimized-small Max most z h = omega (arith, ints, h)

costs-within : (d : Direction) (costs : List ℤ) → All IsEntry costs → CostsWithin (10 ^ 9) (map (minimized d) costs)
costs-within d [] h = tt
costs-within d (c ∷ costs) h = (minimized-small d (10 ^ 9) c (All-head IsEntry c costs h), costs-within d costs (All-rest IsEntry c costs (c ∷ costs) refl h))

-- ---- row ends

end-within : (row : Row) (b : Rhs) → IfSome row.range IsSide → CanStand row b → EndsWithin (2 * 10 ^ 18) (ends_of row b)
end-within row (Value b) k s = ends-within row.sense b row.range s.small k
end-within row Inf k s = (tt, tt)
end-within row MinusInf k s = (tt, tt)

ends-all : (n : ℕ) (rows : List Row) (vs : List (Option Rhs)) → All (IsRow n) rows → AreSides (map shape_of rows) vs → length vs ≡ length rows → All (EndsWithin (2 * 10 ^ 18)) (ends_of_rows rows (changed (map (λ (i : Row). Value i.rhs) rows) vs))
ends-all n [] vs h s e = All-nil (EndsWithin (2 * 10 ^ 18))
ends-all n (row ∷ rows) [] h s e = absurd (omega arith)
ends-all n (row ∷ rows) (v ∷ vs) h s e =
    let first : IsRow n row = All-head (IsRow n) row rows h in
    All-cons (EndsWithin (2 * 10 ^ 18)) (ends_of row (unwrap_or v (Value row.rhs))) (ends_of_rows rows (changed (map (λ (i : Row). Value i.rhs) rows) vs))
    (end-within row (unwrap_or v (Value row.rhs)) first.range (can-stand row v first.rhs (record { small = s.0; allowed = s.1 })))
    (ends-all n rows vs (All-rest (IsRow n) row rows (row ∷ rows) refl h) s.2 (omega arith))

length-ends : (rows : List Row) (bs : List Rhs) → length bs ≡ length rows → length (ends_of_rows rows bs) ≡ length rows
length-ends [] bs e = refl
length-ends (row ∷ rows) [] e = absurd (omega arith)
length-ends (row ∷ rows) (b ∷ bs) e = ap suc (length-ends rows bs (omega arith))

-- ---- one scenario

-- the sides of a scenario's bounds
pub record SidesFit (m : IntegerModel) (c : Change) : Type 0 where
  pub low_count : length (lows_of m c) ≡ length m.columns
  pub high_count : length (highs_of m c) ≡ length m.columns
  pub small_lows : All IsBound (lows_of m c)
  pub small_highs : All IsBound (highs_of m c)

pub sides-fit : (m : IntegerModel) (c : Change) → models.KeepsLimits m → IsChange (length m.columns) (map shape_of m.rows) c → SidesFit m c
sides-fit m c k h = record {
  low_count = length-changed (map (λ (j : Column). j.low) m.columns) c.lows ∙ length-map m.columns (λ (j : Column). j.low);
  high_count = length-changed (map (λ (j : Column). j.high) m.columns) c.highs ∙ length-map m.columns (λ (j : Column). j.high);
  small_lows = changed-all IsBound (map (λ (j : Column). j.low) m.columns) c.lows (map-all (λ (j : Column). j.low) IsColumn IsBound (λ j i. i.low) m.columns k.columns) h.lows;
  small_highs = changed-all IsBound (map (λ (j : Column). j.high) m.columns) c.highs (map-all (λ (j : Column). j.high) IsColumn IsBound (λ j i. i.high) m.columns k.columns) h.highs;
}

pub scenario-within : (m : IntegerModel) (c : Change) → models.KeepsLimits m → IsChange (length m.columns) (map shape_of m.rows) c → IsWithin (length m.columns) (length m.rows) (scenario_of m c)
scenario-within m c k h =
    let fits : SidesFit m c = sides-fit m c k h in
    let same : length (lows_of m c) ≡ length (highs_of m c) = fits.low_count ∙ sym fits.high_count in
    let cost_count : length (costs_of m c) ≡ length m.columns = length-map (changed (map (λ (j : Column). j.cost) m.columns) c.costs) (minimized m.direction) ∙ length-changed (map (λ (j : Column). j.cost) m.columns) c.costs ∙ length-map m.columns (λ (j : Column). j.cost) in
    let small_costs : All IsEntry (changed (map (λ (j : Column). j.cost) m.columns) c.costs) = changed-all IsEntry (map (λ (j : Column). j.cost) m.columns) c.costs (map-all (λ (j : Column). j.cost) IsColumn IsEntry (λ j i. i.cost) m.columns k.columns) h.costs in
    let rhs_count : length c.rhs ≡ length m.rows = h.rhs_count ∙ length-map m.rows shape_of in
    let keeps : KeepsLimits (scenario_of m c) = record {
      few = rw cost_count k.few_columns;
      costs = costs-within m.direction (changed (map (λ (j : Column). j.cost) m.columns) c.costs) small_costs;
      bounds = sides-within (lows_of m c) (highs_of m c) (record { same_length = same; small_lows = fits.small_lows; small_highs = fits.small_highs });
      constant = minimized-small m.direction (10 ^ 15) m.constant k.constant;
      rows = rw cost_count (rows-within (length m.columns) m.rows k.rows);
    } in
    record {
      limits = keeps;
      shape = record {
        costs = cost_count;
        bounds = length-box_of (lows_of m c) (highs_of m c) same ∙ fits.low_count;
        rows = length-map m.rows (λ (i : Row). i.terms);
        ends = length-ends m.rows (changed (map (λ (i : Row). Value i.rhs) m.rows) c.rhs) (length-changed (map (λ (i : Row). Value i.rhs) m.rows) c.rhs ∙ length-map m.rows (λ (i : Row). Value i.rhs));
        terms = rows-below (length m.columns) (map (λ (i : Row). i.terms) m.rows) (rows-within (length m.columns) m.rows k.rows);
      };
      ends = ends-all (length m.columns) m.rows c.rhs k.rows h.rhs rhs_count;
      values = values-fit (scenario_of m c) keeps;
    }

-- ---- all scenarios

solved-good : (m : IntegerModel) (cs : List Change) → All (IsChange (length m.columns) (map shape_of m.rows)) cs → All (IsChange (length m.columns) (map shape_of m.rows)) (solved m cs)
solved-good m [] h =
    All-cons (IsChange (length m.columns) (map shape_of m.rows)) (no_change (length m.columns) (length m.rows)) [] (base-good m (length m.columns) (length m.rows) (no_change (length m.columns) (length m.rows)) refl refl refl) (All-nil (IsChange (length m.columns) (map shape_of m.rows)))
solved-good m (c ∷ cs) h = h

length-solved : (m : IntegerModel) (cs : List Change) → length (solved m cs) ≡ max 1 (length cs)
length-solved m [] = refl
length-solved m (c ∷ cs) = omega arith

pub length-scenarios : (m : IntegerModel) (cs : List Change) → length (problem_of m cs).scenarios ≡ max 1 (length cs)
length-scenarios m cs = length-map (solved m cs) (scenario_of m) ∙ length-solved m cs

pub changes-good : (m : IntegerModel) (c : ChangeSet) → IsChangeSet c → Fits c m → All (IsChange (length m.columns) (map shape_of m.rows)) c.scenarios
changes-good m c k f =
    let columns = f.columns in
    let rows = f.rows in
    subst (λ (rs : List _). All (IsChange (length m.columns) rs) c.scenarios) rows (subst (λ (n : ℕ). All (IsChange n c.rows) c.scenarios) columns k.changes)

pub problem-within : (m : IntegerModel) (c : ChangeSet) → models.KeepsLimits m → IsChangeSet c → Fits c m → AreWithin (problem_of m c.scenarios)
problem-within m c k h f =
    let count : length (problem_of m c.scenarios).scenarios ≡ max 1 (length c.scenarios) = length-scenarios m c.scenarios in
    record {
      few_columns = k.few_columns;
      few_rows = k.few_rows;
      some_scenario = omega (arith, count);
      few_scenarios = omega (arith, count, h.few_scenarios);
      programs = map-all (scenario_of m) (IsChange (length m.columns) (map shape_of m.rows)) (IsWithin (length m.columns) (length m.rows)) (λ d g. scenario-within m d k g) (solved m c.scenarios) (solved-good m c.scenarios (changes-good m c h f));
    }

-- ---- what is kept of a scenario

pub record IsChosen (p : Scenarios) (s : ℕ) (n : Numbers) : Type 0 where
  pub costs : n.costs ≡ (program_at (problem p) s).costs
  pub bounds : box_of n.lows n.highs ≡ (program_at (problem p) s).bounds
  pub ends : n.ends ≡ (program_at (problem p) s).ends
  pub rows : map (λ (i : Row). i.terms) p.model.rows ≡ (program_at (problem p) s).rows
  pub constant : minimized p.model.direction p.model.constant ≡ (program_at (problem p) s).constant
  pub within : IsWithin (length p.model.columns) (length p.model.rows) (program_at (problem p) s)
  pub low_count : length n.lows ≡ length p.model.columns
  pub high_count : length n.highs ≡ length p.model.columns
  pub small_lows : All IsBound n.lows
  pub small_highs : All IsBound n.highs

-- the changes of scenario s
chosen-change : (m : IntegerModel) (c : ChangeSet) → models.KeepsLimits m → IsChangeSet c → Fits c m → (s : ℕ) (d : Change) → s < length (solved m c.scenarios) → IsChange (length m.columns) (map shape_of m.rows) (slice_index_or (solved m c.scenarios) s d)
chosen-change m c k h f s d lt = solved-good m c.scenarios (changes-good m c h f) s d lt

of-change : (m : IntegerModel) (cs : List Change) (s : ℕ) (d : Change) (n : Numbers) → models.KeepsLimits m → IsChange (length m.columns) (map shape_of m.rows) d → program_at (problem_of m cs) s ≡ scenario_of m d → n ≡ numbers_of m d → IsChosen (record { model = m; changes = cs }) s n
of-change m cs s d n k h is same =
    let fits : SidesFit m d = sides-fit m d k h in
    record {
      costs = ap (λ (i : Numbers). i.costs) same ∙ sym (ap (λ (q : Program). q.costs) is);
      bounds = ap (λ (i : Numbers). box_of i.lows i.highs) same ∙ sym (ap (λ (q : Program). q.bounds) is);
      ends = ap (λ (i : Numbers). i.ends) same ∙ sym (ap (λ (q : Program). q.ends) is);
      rows = sym (ap (λ (q : Program). q.rows) is);
      constant = sym (ap (λ (q : Program). q.constant) is);
      within = subst (IsWithin (length m.columns) (length m.rows)) (sym is) (scenario-within m d k h);
      low_count = ap (λ (i : Numbers). length i.lows) same ∙ fits.low_count;
      high_count = ap (λ (i : Numbers). length i.highs) same ∙ fits.high_count;
      small_lows = subst (λ (i : Numbers). All IsBound i.lows) (sym same) fits.small_lows;
      small_highs = subst (λ (i : Numbers). All IsBound i.highs) (sym same) fits.small_highs;
    }

pub chosen : (m : IntegerModel) (c : ChangeSet) (kept : List Numbers) (p : Scenarios) (s : ℕ) (n : Numbers) → IsPosed m c kept → record { model = m; changes = c.scenarios } ≡ p → s < length (problem p).scenarios → n ≡ slice_index_or kept s n → IsChosen p s n
chosen m c kept p s n k same lt read =
    let at : s < length (problem_of m c.scenarios).scenarios = subst (λ (q : Scenarios). s < length (problem q).scenarios) (sym same) lt in
    let count : length (problem_of m c.scenarios).scenarios ≡ length (solved m c.scenarios) = length-map (solved m c.scenarios) (scenario_of m) in
    let in_solved : s < length (solved m c.scenarios) = omega (arith, at, count) in
    let d : Change = slice_index_or (solved m c.scenarios) s (no_change 0 0) in
    let program : program_at (problem_of m c.scenarios) s ≡ scenario_of m d = get_or-map (scenario_of m) (solved m c.scenarios) s (no_change 0 0) (record { costs = []; constant = pos 0; bounds = []; rows = []; ends = [] }) in_solved in
    let numbers : n ≡ numbers_of m d = read ∙ ap (λ (ns : List Numbers). slice_index_or ns s n) k.numbers ∙ get_or-map (numbers_of m) (solved m c.scenarios) s (no_change 0 0) n in_solved in
    subst (λ (q : Scenarios). IsChosen q s n) same (of-change m c.scenarios s d n k.limits (chosen-change m c k.limits k.changes k.fits s (no_change 0 0) in_solved) program numbers)

-- ---- programs by the model and the changes

program-chosen : (p : Scenarios) (s : ℕ) → s < length (problem p).scenarios → program_at (problem p) s ≡ scenario_of p.model (slice_index_or (solved p.model p.changes) s (no_change 0 0))
program-chosen p s lt =
    let count : length (problem p).scenarios ≡ length (solved p.model p.changes) = length-map (solved p.model p.changes) (scenario_of p.model) in
    let in_solved : s < length (solved p.model p.changes) = omega (arith, lt, count) in
    get_or-map (scenario_of p.model) (solved p.model p.changes) s (no_change 0 0) (record { costs = []; constant = pos 0; bounds = []; rows = []; ends = [] }) in_solved

pub constant-at : (p : Scenarios) (s : ℕ) → s < length (problem p).scenarios → (program_at (problem p) s).constant ≡ minimized p.model.direction p.model.constant
constant-at p s lt = ap (λ (q : Program). q.constant) (program-chosen p s lt)

rows-at : (p : Scenarios) (s : ℕ) → s < length (problem p).scenarios → (program_at (problem p) s).rows ≡ map (λ (i : Row). i.terms) p.model.rows
rows-at p s lt = ap (λ (q : Program). q.rows) (program-chosen p s lt)

-- ---- feasible points

box_of-sides : (box : Box) → box_of (map (λ (i : Interval). i.low) box) (map (λ (i : Interval). i.high) box) ≡ box
box_of-sides [] = refl
box_of-sides (i ∷ box) = ap (λ (b : Box). i ∷ b) (box_of-sides box)

between : (l h v : ℤ) → IsBound l → IsBound h → l ≤ℤ v → v ≤ℤ h → IsBound v
between l h v a b c d = omega (arith, ints, c, d)

-- each number of a point in the box is small
pub point-small : (lows highs x : List ℤ) → All IsBound lows → All IsBound highs → InBox (box_of lows highs) x → All IsBound x
point-small lows highs [] a b h = All-nil IsBound
point-small [] highs (v ∷ x) a b h = absurd h
point-small (l ∷ lows) [] (v ∷ x) a b h = absurd h
point-small (l ∷ lows) (u ∷ highs) (v ∷ x) a b h =
    All-cons IsBound v x (between l u v (All-head IsBound l lows a) (All-head IsBound u highs b) h.0 h.1)
    (point-small lows highs x (All-rest IsBound l lows (l ∷ lows) refl a) (All-rest IsBound u highs (u ∷ highs) refl b) h.2)

-- a point is feasible exactly where it lies between the sides and meets the rows
pub record IsRead (p : Scenarios) (s : ℕ) (lows highs : List ℤ) (ends : List Ends) : Type 0 where
  pub scenario : s < length (problem p).scenarios
  pub lows_are : lows ≡ map (λ (i : Interval). i.low) (program_at (problem p) s).bounds
  pub highs_are : highs ≡ map (λ (i : Interval). i.high) (program_at (problem p) s).bounds
  pub ends_are : ends ≡ (program_at (problem p) s).ends

pub bounds-read : (p : Scenarios) (s : ℕ) (lows highs : List ℤ) → lows ≡ map (λ (i : Interval). i.low) (program_at (problem p) s).bounds → highs ≡ map (λ (i : Interval). i.high) (program_at (problem p) s).bounds → box_of lows highs ≡ (program_at (problem p) s).bounds
bounds-read p s lows highs a b =
    ap (λ (ls : List ℤ). box_of ls highs) a ∙ ap (λ (hs : List ℤ). box_of (map (λ (i : Interval). i.low) (program_at (problem p) s).bounds) hs) b ∙ box_of-sides (program_at (problem p) s).bounds

pub feasible-within : (p : Scenarios) (s : ℕ) (lows highs x : List ℤ) → lows ≡ map (λ (i : Interval). i.low) (program_at (problem p) s).bounds → highs ≡ map (λ (i : Interval). i.high) (program_at (problem p) s).bounds → Feasible (program_at (problem p) s) x → InBox (box_of lows highs) x
feasible-within p s lows highs x a b f = subst (λ (box : Box). InBox box x) (sym (bounds-read p s lows highs a b)) f.within

pub feasible-rows : (p : Scenarios) (s : ℕ) (lows highs x : List ℤ) (ends : List Ends) (rows : List Row) → rows ≡ p.model.rows → IsRead p s lows highs ends → Feasible (program_at (problem p) s) x → MeetsRows (map (λ (i : Row). i.terms) rows) ends x
feasible-rows p s lows highs x ends rows e r f =
    subst (λ (es : List Ends). MeetsRows (map (λ (i : Row). i.terms) rows) es x) (sym r.ends_are)
    (subst (λ (ts : List Terms). MeetsRows ts (program_at (problem p) s).ends x) (rows-at p s r.scenario ∙ ap (λ (rs : List Row). map (λ (i : Row). i.terms) rs) (sym e)) f.rows)

pub made-feasible : (p : Scenarios) (s : ℕ) (lows highs x : List ℤ) (ends : List Ends) (rows : List Row) → rows ≡ p.model.rows → IsRead p s lows highs ends → InBox (box_of lows highs) x → MeetsRows (map (λ (i : Row). i.terms) rows) ends x → Feasible (program_at (problem p) s) x
made-feasible p s lows highs x ends rows e r h m = record {
  within = subst (λ (box : Box). InBox box x) (bounds-read p s lows highs r.lows_are r.highs_are) h;
  rows = subst (λ (es : List Ends). MeetsRows (program_at (problem p) s).rows es x) r.ends_are
      (subst (λ (ts : List Terms). MeetsRows ts ends x) (ap (λ (rs : List Row). map (λ (i : Row). i.terms) rs) e ∙ sym (rows-at p s r.scenario)) m);
}
